pub mod TermLists
pub mod Shapes
pub mod Moves
pub mod Ranked
pub mod Answered
pub mod Stepped
