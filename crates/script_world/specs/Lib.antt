pub mod Sites
pub mod World
pub mod Plays
pub mod OneAnswer
pub mod Honest
