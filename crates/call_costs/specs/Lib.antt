pub mod Costs
pub mod Knowing
pub mod Standing
