pub mod Entries
pub mod Numbers
pub mod Picks
pub mod Search
