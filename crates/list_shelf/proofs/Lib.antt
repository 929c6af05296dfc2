pub mod Frames
pub mod Shelves
pub mod Slides
