pub mod Caps
pub mod inside
