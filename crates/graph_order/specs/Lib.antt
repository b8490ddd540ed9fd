pub mod CalleesFirst
pub mod inside
