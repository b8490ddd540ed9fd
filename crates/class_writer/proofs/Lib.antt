pub mod FirstIndex
pub mod PoolBytes
pub mod ClassBytes
pub mod Fits
pub mod Over
pub mod Stepping
