pub mod Lanes
pub mod Memory
pub mod Stretches
