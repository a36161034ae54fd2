pub mod Entries
pub mod Packing
pub mod Reading
pub mod Trailers
pub mod Writing
