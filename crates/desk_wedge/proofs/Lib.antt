pub mod ReadUnits
pub mod Descents
pub mod Documents
pub mod Numbers
pub mod Items
pub mod Values
pub mod FirstFault
