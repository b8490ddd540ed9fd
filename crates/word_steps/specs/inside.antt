pub mod Change
pub mod Leap
