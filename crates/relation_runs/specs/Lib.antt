pub mod Passing
pub mod Leading
pub mod Trees
pub mod Changed
pub mod TermOutcomes
pub mod Nodes
pub mod Laws
