pub mod Tellings
pub mod TargetLists
pub mod Linked
pub mod Made
pub mod Names
