pub mod SelfSteps
pub mod Levels
pub mod Falls
pub mod RankedPoints
pub mod Shares
pub mod Capped
pub mod EntryNumbers
