pub mod Fraction
pub mod Rule
pub mod Fits
pub mod Laws
