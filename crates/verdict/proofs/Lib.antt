pub mod Rows
pub mod Entries
pub mod Judging
pub mod Looking
pub mod Clocks
pub mod Deciding
pub mod Sheets
