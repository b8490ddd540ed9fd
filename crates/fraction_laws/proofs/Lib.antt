pub mod Signs
pub mod Sums
pub mod Same
