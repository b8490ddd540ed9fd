pub mod Members
pub mod Tests
pub mod Numbers
pub mod Positions
pub mod Choices
pub mod Parts
pub mod Repeats
pub mod Orders
