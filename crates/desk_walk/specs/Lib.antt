pub mod Turn
pub mod Waiting
pub mod Following
pub mod Tree
