pub mod Positions
pub mod Filled
