pub mod Write
pub mod Holding
