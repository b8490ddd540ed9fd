pub mod Objects
pub mod Marks
pub mod Reaching
pub mod Law
pub mod Sound
pub mod Good
