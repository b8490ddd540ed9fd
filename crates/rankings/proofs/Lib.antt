pub mod Wholes
pub mod Places
pub mod TemplateValues
pub mod Kept
pub mod Capped
pub mod Greatest
pub mod Following
