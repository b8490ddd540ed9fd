pub mod Alone
pub mod Targets
pub mod Words
pub mod Calling
pub mod Places
pub mod Kept
pub mod Moments
