pub mod Tags
pub mod Holding
