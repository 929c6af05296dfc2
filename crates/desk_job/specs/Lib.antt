pub mod Job
pub mod Terms
pub mod Setting
pub mod Making
pub mod Answer
pub mod Reading
