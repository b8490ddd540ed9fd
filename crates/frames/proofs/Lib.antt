pub mod Heaps
pub mod Reversed
pub mod OnTop
pub mod Behind
pub mod Members
pub mod Placing
pub mod Keeping
