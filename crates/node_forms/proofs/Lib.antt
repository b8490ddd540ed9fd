pub mod Terms
pub mod Items
pub mod Same
pub mod SelfCalls
pub mod Spent
pub mod Growing
pub mod Nodes
pub mod Ordered
