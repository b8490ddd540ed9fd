pub mod KindOrder
pub mod Pointwise
pub mod Lattice
