pub mod Widths
pub mod WedgeSum
