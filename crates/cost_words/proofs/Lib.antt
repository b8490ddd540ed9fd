pub mod Cuts
pub mod Prefixes
pub mod Names
pub mod Numbers
pub mod Loops
