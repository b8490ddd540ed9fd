pub mod Listings
pub mod Circles
pub mod Coverings
pub mod Calls
pub mod Nested
