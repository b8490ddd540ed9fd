pub mod Terms
pub mod Paths
pub mod Algebra
pub mod inside
