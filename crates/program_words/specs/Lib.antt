pub mod Words
pub mod Choices
pub mod Help
pub mod Arguments
pub mod Examples
