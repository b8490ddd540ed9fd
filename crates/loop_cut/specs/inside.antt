-- what only this crate's own functions and proofs say
pub mod Gathered
pub mod Arrivals
