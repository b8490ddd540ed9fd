pub mod Homes
pub mod Knowing
pub mod Moments
pub mod Staying
pub mod inside
