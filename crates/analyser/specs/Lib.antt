pub mod Words
pub mod Files
pub mod Classes
pub mod Answer
pub mod Report
pub mod Headline
pub mod Causes
pub mod Answers
