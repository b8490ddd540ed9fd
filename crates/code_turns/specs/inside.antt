-- what only this crate's own proofs say
pub mod Around
pub mod Lowest
