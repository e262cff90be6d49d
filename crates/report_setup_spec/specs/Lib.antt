-- What a setup sheet says, what its answer shows, what is proved of both, and worked cases.
pub mod Grammar
pub mod Answers
pub mod Promises
pub mod Cases
