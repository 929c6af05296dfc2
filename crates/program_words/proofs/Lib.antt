pub mod Asked
pub mod Chosen
pub mod Shapes
