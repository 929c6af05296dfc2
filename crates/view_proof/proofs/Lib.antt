pub mod Texts
mod Styled
