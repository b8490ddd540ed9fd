pub mod Terms
pub mod Bounds
pub mod Values
pub mod Laws
pub mod Texts
pub mod inside
