pub mod Helps
pub mod Limits
