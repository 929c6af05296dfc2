pub mod CastLaw
pub mod Ribbons
mod Running
mod Totals
