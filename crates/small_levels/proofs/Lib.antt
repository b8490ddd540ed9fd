pub mod Evens
pub mod FallParts
pub mod LevelSums
pub mod LiveSteps
pub mod Measures
