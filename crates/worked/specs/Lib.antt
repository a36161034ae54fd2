pub mod Worked
pub mod Reels
pub mod Generated
