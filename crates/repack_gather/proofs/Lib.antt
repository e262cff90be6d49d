pub mod Lanes
pub mod Marked
