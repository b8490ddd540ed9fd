pub mod Bounds
pub mod Walking
pub mod Faults
pub mod Keeping
