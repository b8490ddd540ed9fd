mod Joined
mod Ranges
