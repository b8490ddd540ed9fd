pub mod Facts
pub mod Origins
pub mod Effects
pub mod inside
pub mod Flow
pub mod Lawful
