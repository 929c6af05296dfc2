pub mod Behind
pub mod Counts
pub mod Shelves
pub mod Taken
