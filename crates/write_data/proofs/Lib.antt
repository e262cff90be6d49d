-- The laws that the proofs of the functions rest on. Read in this order.
pub mod Octets
pub mod Fields
pub mod Lanes
pub mod Rules
pub mod Turns
