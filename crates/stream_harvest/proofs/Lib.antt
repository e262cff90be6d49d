pub mod Copied
pub mod Fill
pub mod Answer
