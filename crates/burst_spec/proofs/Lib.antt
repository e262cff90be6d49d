-- The laws of the burst definitions. Read in this order.
pub mod Rounding
pub mod Known
pub mod Below
pub mod Wrap
pub mod Block
pub mod Lanes
pub mod Transfer
pub mod Step
pub mod Answers
pub mod Once
pub mod Witnesses
pub mod Cases
