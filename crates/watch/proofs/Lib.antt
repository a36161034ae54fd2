pub mod Booleans
pub mod Rows
pub mod Recalling
pub mod Assembling
pub mod Following
pub mod Extending
pub mod Stuffing
pub mod ByKind
