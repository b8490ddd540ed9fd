pub mod NewFields
pub mod OnTop
pub mod Names
pub mod Naming
pub mod ArrayLaws
pub mod FieldLaws
pub mod CastLaws
pub mod Changes
