pub mod Kept
pub mod Masks
pub mod Sifted
pub mod Loaded
