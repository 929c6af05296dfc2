pub mod Values
pub mod Line
pub mod Galley
pub mod Answer
pub mod Laws
pub mod Svg
