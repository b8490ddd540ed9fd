-- what only this crate's proofs say
pub mod Runs
pub mod Scopes
pub mod Makings
