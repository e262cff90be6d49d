-- The report of paper 01. Read in this order: what it is, what is proved of it, worked cases.
pub mod Report
pub mod Promises
pub mod Cases
