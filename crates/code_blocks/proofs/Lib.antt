pub mod Placings
pub mod Risings
mod Followings
mod Marking
pub mod Ways
mod Cuts
pub mod Laying
pub mod Chains
pub mod Sets
