pub mod Tallies
pub mod Fitting
pub mod Ledgers
pub mod Verdicts
pub mod RoundReels
pub mod RoundLaws
pub mod Going
