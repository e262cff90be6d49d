pub mod Fill
pub mod Users
