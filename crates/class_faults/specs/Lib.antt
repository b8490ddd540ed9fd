pub mod Pieces
pub mod PoolFaults
pub mod Parts
pub mod Faults
