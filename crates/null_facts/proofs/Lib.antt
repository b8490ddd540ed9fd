mod Between
mod Ends
mod Counting
