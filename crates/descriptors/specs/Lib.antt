pub mod Grammar
pub mod Pieces
pub mod Texts
pub mod Tests
pub mod Laws
pub mod Sizes
