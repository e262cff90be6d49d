pub mod Splice
pub mod Words
