pub mod Caster
pub mod Bounds
pub mod Lines
pub mod Memory
pub mod Reading
pub mod ReadingLaws
