pub mod Ribbon
