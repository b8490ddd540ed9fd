pub mod Calling
pub mod Step
pub mod Row
pub mod inside
