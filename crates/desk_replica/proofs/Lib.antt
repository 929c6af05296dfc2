pub mod Sets
pub mod Known
pub mod Passes
pub mod Shows
pub mod Made
pub mod KeptSets
pub mod Sound
pub mod ByStamp
pub mod Ends
pub mod Convergence
pub mod Orders
pub mod Merges
mod Unforked
mod Faultless
mod Runs
