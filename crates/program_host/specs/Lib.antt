pub mod Host
pub mod Prompt
