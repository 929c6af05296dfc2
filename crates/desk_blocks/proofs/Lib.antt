pub mod Ranks
pub mod Tallies
pub mod Places
pub mod Sorts
