pub mod Images
pub mod ImageLaws
pub mod Words
