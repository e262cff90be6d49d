pub mod Kept
pub mod Sieve
