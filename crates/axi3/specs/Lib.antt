-- What the inner functions of the cutter state. What the calls answer is in axi3_spec.
pub mod Rows
