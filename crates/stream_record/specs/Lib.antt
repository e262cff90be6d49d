pub mod Finding
pub mod Header
pub mod Taken
