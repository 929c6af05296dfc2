pub mod Wedge
pub mod File
pub mod Descent
pub mod Keys
pub mod Items
