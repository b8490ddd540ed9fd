pub mod Covers
pub mod NoCovers
pub mod Surveys
pub mod Distances
pub mod Cycles
