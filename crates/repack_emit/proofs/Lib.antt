pub mod Tables
pub mod Answer
