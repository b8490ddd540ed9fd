pub mod Division
pub mod Groups
pub mod Changes
pub mod Cases
pub mod Counts
pub mod Jumping
