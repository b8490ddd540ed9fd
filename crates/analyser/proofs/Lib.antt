pub mod FetchedFiles
pub mod Told
pub mod Worlds
pub mod Answering
pub mod Causes
pub mod Calls
