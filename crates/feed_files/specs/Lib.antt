pub mod Files
pub mod Input
pub mod Trial
pub mod Kinds
pub mod OutputLaws
pub mod Outputs
