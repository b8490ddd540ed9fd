pub mod Told
pub mod References
pub mod Calls
pub mod Members
pub mod TargetList
pub mod Methods
