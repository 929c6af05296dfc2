pub mod Prefixes
pub mod Reading
pub mod Numbered
pub mod Lines
pub mod Standing
pub mod SetOut
pub mod OfJob
