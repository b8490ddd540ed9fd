pub mod Ends
pub mod Leaving
pub mod Layers
pub mod History
