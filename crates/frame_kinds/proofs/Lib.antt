mod Counts
mod Places
mod Telling
mod Arrivals
mod Mixing
