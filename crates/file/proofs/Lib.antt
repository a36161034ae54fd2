pub mod Digits
pub mod EntryBytes
pub mod Opening
pub mod Packed
pub mod Parts
pub mod Behind
pub mod RoundTrip
pub mod SheetFacts
