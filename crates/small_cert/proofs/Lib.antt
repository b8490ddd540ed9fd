pub mod Scaling
pub mod Entailing
pub mod Proved
pub mod LeastSums
