-- The laws of merging. Read in this order.
pub mod Turns
pub mod Tags
pub mod Refusals
pub mod Faults
pub mod Order
pub mod Merge
pub mod Refused
pub mod Packing
pub mod Packed
pub mod Promises
pub mod Once
pub mod Cases
pub mod Witnesses
