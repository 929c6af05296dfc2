pub mod Joins
mod Edges
pub mod Lacking
mod Pairs
pub mod Ranges
mod Rises
pub mod Stamped
mod Stretches
