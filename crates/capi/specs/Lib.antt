pub mod Shows
pub mod Reports
