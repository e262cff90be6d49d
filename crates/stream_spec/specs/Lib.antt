-- What a stream means. Words in quotes are paper 01's, or the three demands' where a comment says so; sections with a
-- point in their number are those of Arm IHI 0051A. Read in this order.
pub mod Items
pub mod Packed
pub mod Layout
pub mod Checks
pub mod Walk
pub mod Memory
pub mod Handshake
pub mod Answers
pub mod Legal
pub mod Promises
pub mod Demand3
pub mod Tables
pub mod Witnesses
pub mod Cases
