pub mod Codes
pub mod Lanes
pub mod Stands
