pub mod WellFormed
pub mod Keeping
