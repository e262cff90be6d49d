pub mod Groups
pub mod Rules
pub mod Turns
