pub mod Regions
pub mod Turns
pub mod Tested
pub mod Laws
