mod Besides
mod Stable
mod Words
mod Heaps
mod Placing
mod Targets
mod Activations
mod Standing
mod Entering
mod Spending
pub mod Bounding
mod Sums
mod Orders
