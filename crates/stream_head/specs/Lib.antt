pub mod Usual
pub mod Zeros
