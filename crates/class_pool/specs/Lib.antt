pub mod Place
pub mod Utf8
pub mod Pieces
pub mod Pool
pub mod PoolReading
pub mod FirstFault
