pub mod Entries
pub mod Shows
