pub mod Leveled
pub mod Numbers
pub mod Falls
pub mod Measured
