pub mod Runs
pub mod Expressions
pub mod Sums
pub mod Readers
pub mod Checks
