pub mod GroupLaws
pub mod Breaks
pub mod WordLaws
pub mod Splits
