pub mod Texts
pub mod Names
pub mod Case
pub mod File
pub mod Reading
pub mod Laws
