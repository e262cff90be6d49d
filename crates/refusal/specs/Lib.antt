pub mod Code
pub mod Cases
pub mod Checks
