-- The contracts of the C calls need no proof file; here is that they leave no choice.
pub mod Once
