-- Laws of the definitions of specs/Text, and their worked cases.
pub mod Laws
pub mod Cases
