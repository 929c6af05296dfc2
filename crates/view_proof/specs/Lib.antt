pub mod Parts
pub mod Lines
pub mod Faults
pub mod Reasons
pub mod Proof
