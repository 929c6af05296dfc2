pub mod Statuses
pub mod Merged
pub mod Telling
pub mod Explaining
pub mod Previewing
pub mod Typed
pub mod InRooms
pub mod Placing
