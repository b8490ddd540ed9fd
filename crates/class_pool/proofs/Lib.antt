pub mod Numbers
pub mod Pieces
pub mod Loops
pub mod EntryReading
pub mod Tables
pub mod PoolFaults
pub mod Getters
