-- The laws of write beats. Read in this order.
pub mod Sums
pub mod Strobes
pub mod Findings
pub mod Answers
pub mod Refusals
pub mod Takes
pub mod Promises
pub mod Once
pub mod Cases
pub mod Witnesses
