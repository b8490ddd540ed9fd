pub mod Keys
pub mod Joins
pub mod Lines
pub mod Orders
