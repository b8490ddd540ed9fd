pub mod Multiples
pub mod Small
pub mod Least
pub mod Order
pub mod inside
