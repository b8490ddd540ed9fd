pub mod Arguments
pub mod Dispatching
pub mod Rows
pub mod Growing
pub mod Steps
pub mod Settling
