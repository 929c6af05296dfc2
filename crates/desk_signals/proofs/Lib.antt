pub mod Numbers
pub mod Same
pub mod Pairs
pub mod Table
pub mod RowLaws
pub mod Reading
