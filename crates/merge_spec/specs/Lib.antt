-- Two cameras on one link, in the words of paper 02, T-08. Read in this order.
pub mod Turns
pub mod Merge
pub mod Answers
pub mod Promises
pub mod Cases
