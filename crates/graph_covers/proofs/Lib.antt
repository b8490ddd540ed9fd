pub mod Spreads
pub mod Chains
pub mod AvoidLaws
pub mod Namings
pub mod Opens
