pub mod Firsts
pub mod FirstPaths
pub mod Insides
pub mod Circles
pub mod Arounds
pub mod Aheads
