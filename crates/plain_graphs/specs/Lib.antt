pub mod Plain
pub mod Circling
pub mod Nearest
