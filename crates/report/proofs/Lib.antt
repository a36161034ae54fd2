pub mod Memories
pub mod Opened
pub mod Spelling
