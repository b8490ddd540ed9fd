pub mod Run
pub mod Moment
