pub mod Entry
pub mod Entering
pub mod inside
