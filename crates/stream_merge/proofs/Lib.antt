pub mod Copy
pub mod Pass
pub mod Answer
