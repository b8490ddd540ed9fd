pub mod Placing
pub mod Successors
pub mod Blocks
pub mod Laws
pub mod inside
