pub mod Chains
pub mod Search
