pub mod Lengths
pub mod inside
