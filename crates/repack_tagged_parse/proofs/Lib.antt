pub mod Fits
pub mod Parsing
