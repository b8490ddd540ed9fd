pub mod Slots
pub mod Marking
pub mod MarkingLaws
