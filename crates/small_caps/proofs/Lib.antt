pub mod Keys
pub mod Masks
pub mod Candidates
pub mod Totals
pub mod Firsts
pub mod Trials
pub mod Searching
pub mod Answered
