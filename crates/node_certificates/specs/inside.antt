-- what only this crate's own functions and proofs say
pub mod Steps
