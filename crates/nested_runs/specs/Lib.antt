pub mod Nest
pub mod Stacks
pub mod Spending
pub mod Keeping
pub mod Refining
pub mod Counting
pub mod Looped
pub mod Laws
