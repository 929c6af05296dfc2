pub mod Comparisons
pub mod Gives
pub mod Pairs
pub mod Rising
pub mod Stretches
pub mod Texts
pub mod Ending
