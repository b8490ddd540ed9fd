pub mod Choices
pub mod Pivots
pub mod Making
pub mod Paths
pub mod Certificates
pub mod Dictionaries
pub mod Laws
pub mod Rulers
