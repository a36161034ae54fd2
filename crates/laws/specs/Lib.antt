pub mod Theorems
pub mod WholeSections
