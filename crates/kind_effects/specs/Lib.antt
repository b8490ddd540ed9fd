pub mod Types
pub mod Effects
pub mod Frames
pub mod Entry
pub mod Laws
