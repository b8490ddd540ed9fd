pub mod Numbers
pub mod Expressing
pub mod Standing
pub mod Answering
