pub mod Leading
pub mod Receivers
pub mod Standing
