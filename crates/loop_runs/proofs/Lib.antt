mod Stores
pub mod Keeping
