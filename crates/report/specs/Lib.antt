pub mod Counts
pub mod Delivery
