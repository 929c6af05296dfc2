mod Examples
pub mod Asked
pub mod Sums
pub mod LineSizes
pub mod Widths
pub mod Adding
pub mod Parts
pub mod Paragraphs
pub mod Bounds
pub mod Replicas
pub mod ReadLaws
pub mod ShortLaws
pub mod SetLaws
pub mod Fitting
pub mod NoFaults
pub mod Comes
