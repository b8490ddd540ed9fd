pub mod Nesting
pub mod inside
