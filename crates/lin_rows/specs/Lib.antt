pub mod Linear
pub mod Points
pub mod Proving
pub mod Combining
pub mod Laws
pub mod Rows
pub mod Transitions
pub mod Gives
