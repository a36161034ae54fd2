pub mod Laying
pub mod Searches
