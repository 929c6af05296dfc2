mod Turns
mod Sets
mod Releases
pub mod Lists
pub mod Arrivals
pub mod Drains
pub mod Arrived
pub mod Anew
pub mod Beside
pub mod Links
pub mod Trees
pub mod Linking
pub mod Walking
