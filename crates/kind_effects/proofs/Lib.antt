pub mod Places
pub mod Heights
pub mod Changes
pub mod Orders
