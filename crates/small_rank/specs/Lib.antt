pub mod Ranking
pub mod Answer
pub mod inside
