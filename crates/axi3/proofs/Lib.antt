-- The laws that the functions' proofs cite; those of the definitions are in axi3_spec.
pub mod Rows
pub mod Numbers
pub mod Alone
