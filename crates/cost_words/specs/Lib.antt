pub mod Reading
pub mod Target
pub mod Grammar
