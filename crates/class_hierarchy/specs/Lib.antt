pub mod World
pub mod Building
pub mod Tables
pub mod Faults
pub mod Names
pub mod Ranks
pub mod Orders
pub mod Instances
