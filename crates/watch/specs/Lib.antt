pub mod Tables
pub mod Marks
pub mod Readings
pub mod Assembled
pub mod Phases
