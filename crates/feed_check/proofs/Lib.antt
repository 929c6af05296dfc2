pub mod Said
pub mod Sorts
pub mod Places
pub mod Checks
pub mod Counts
pub mod Onlies
