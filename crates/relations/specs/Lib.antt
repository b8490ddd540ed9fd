pub mod Relation
pub mod Scope
pub mod Ending
pub mod inside
