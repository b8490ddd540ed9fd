pub mod Parts
pub mod Floors
pub mod Costs
pub mod Forms
pub mod Chosen
pub mod Bounding
pub mod Laws
pub mod Orders
