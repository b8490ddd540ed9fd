pub mod Pointwise
pub mod Lattice
pub mod Orders
