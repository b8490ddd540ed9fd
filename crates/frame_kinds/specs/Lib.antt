pub mod Flow
pub mod Lawful
pub mod Disagreeing
pub mod Arriving
