pub mod Meaning
pub mod Keeping
