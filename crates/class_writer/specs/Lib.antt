pub mod Counts
pub mod Fitting
pub mod Indexing
pub mod Putting
pub mod ReadAgain
pub mod Writing
