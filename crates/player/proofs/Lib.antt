pub mod Playing
pub mod HistoryLaw
pub mod Asking
pub mod Keeping
pub mod Scripting
