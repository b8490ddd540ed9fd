pub mod Numbers
pub mod Narrowing
pub mod Computing
pub mod Computed
pub mod Branches
pub mod inside
