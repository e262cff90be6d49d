pub mod Stands
pub mod Read
pub mod Reading
