pub mod Lanes
pub mod Slices
pub mod Take
pub mod Answer
