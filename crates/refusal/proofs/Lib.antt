pub mod Cases
pub mod First
