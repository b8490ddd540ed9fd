pub mod Lists
pub mod Standing
pub mod Ways
mod Exits
mod Changes
mod Arriving
mod Joining
mod Whole
pub mod Walking
pub mod Reaching
