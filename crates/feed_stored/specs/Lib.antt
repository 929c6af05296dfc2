pub mod Stored
pub mod Fault
pub mod Sending
pub mod Greatest
pub mod Text
pub mod Last
pub mod Room
pub mod Laws
