mod Sites
mod Scans
pub mod Soundness
mod Bodies
pub mod Members
pub mod ListingLaws
pub mod ReachedLaws
pub mod Mapped
pub mod FaultLaws
pub mod ProgramLaws
mod Numberings
mod ScanLaws
mod Listings
mod Edges
mod Backs
mod Firsts
mod Checks
mod Orders
pub mod Founded
mod InOrder
mod FirstFaults
