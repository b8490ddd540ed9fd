pub mod Program
pub mod Facts
pub mod Found
