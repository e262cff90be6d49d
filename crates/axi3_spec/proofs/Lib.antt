-- The laws of cutting a burst. Read in this order.
pub mod Runs
pub mod Pieces
pub mod Answers
pub mod Numbers
pub mod Promises
pub mod Once
pub mod Cases
pub mod Witnesses
