pub mod Codes
pub mod Held
pub mod Fitted
pub mod Marks
