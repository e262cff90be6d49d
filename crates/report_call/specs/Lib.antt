-- What the steps of the code answer. The report itself is defined in report_spec.
pub mod Steps
