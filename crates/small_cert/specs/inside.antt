pub mod Levels
pub mod Lesser
