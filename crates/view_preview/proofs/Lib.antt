pub mod Gives
pub mod Galleys
mod Turns
pub mod Placed
pub mod Steps
