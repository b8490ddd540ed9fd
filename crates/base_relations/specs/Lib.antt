pub mod Steps
pub mod Unfolding
pub mod Substitution
pub mod Making
pub mod Limits
pub mod Direct
pub mod inside
