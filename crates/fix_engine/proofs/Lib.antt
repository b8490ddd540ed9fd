pub mod Agendas
pub mod Counts
pub mod Tables
pub mod Points
pub mod Steps
pub mod Gathering
