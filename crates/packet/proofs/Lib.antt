pub mod Table
pub mod Fields
pub mod Moves
pub mod CrcSteps
