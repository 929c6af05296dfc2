pub mod Bits
pub mod ImageLaws
