pub mod Nests
pub mod Spent
pub mod Kept
pub mod Refined
mod CountingLaws
mod LoopedLaws
