pub mod Faults
pub mod Stands
pub mod Steps
pub mod Records
pub mod Lanes
pub mod Take
pub mod Parsing
pub mod Skimming
