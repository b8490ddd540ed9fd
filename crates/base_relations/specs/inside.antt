-- what only this crate's own functions and proofs say
pub mod Expansions
pub mod Trails
pub mod Gives
pub mod Plans
