pub mod Construct
pub mod Laws
pub mod Layouts
pub mod Grammar
pub mod Names
pub mod Support
pub mod Cases
pub mod Actions
