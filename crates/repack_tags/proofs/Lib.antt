pub mod Sifting
pub mod Lanes
pub mod Putting
