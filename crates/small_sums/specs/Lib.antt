pub mod Sums
pub mod Terms
pub mod Keys
pub mod Places
pub mod inside
