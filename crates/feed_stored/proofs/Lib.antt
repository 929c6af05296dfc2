pub mod Bytes
pub mod Feeds
pub mod Cuts
pub mod Lines
pub mod Places
pub mod Counters
pub mod Putting
pub mod Rooms
