pub mod Memories
pub mod Windows
pub mod Cuts
