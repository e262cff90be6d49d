pub mod Marked
pub mod Holding
