pub mod BlockGraph
pub mod Regions
pub mod Effects
pub mod CodeLoops
pub mod Laws
pub mod inside
