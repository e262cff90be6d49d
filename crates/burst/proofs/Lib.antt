-- The laws that the functions' proofs cite; those of the definitions are in burst_spec.
pub mod Tests
pub mod Formulas
pub mod Masks
