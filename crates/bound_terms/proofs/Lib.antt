pub mod Growth
pub mod Following
pub mod Parts
pub mod Sums
pub mod Writing
