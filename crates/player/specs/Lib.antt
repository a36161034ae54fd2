pub mod Standings
pub mod Players
pub mod Scripts
