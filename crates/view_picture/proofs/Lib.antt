pub mod Texts
pub mod NextBox
pub mod NextPlace
pub mod NextLine
