pub mod Cells
pub mod Survey
