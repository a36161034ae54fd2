pub mod Checks
pub mod Pens
