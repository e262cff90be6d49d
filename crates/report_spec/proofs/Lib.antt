-- Laws of the report: a sheet whose numbers pass, conversion in either mode, packet ends, short texts; what is
-- promised; its worked cases; and what shows that contract and promises say something.
pub mod Passes
pub mod Convert
pub mod Ends
pub mod Short
pub mod Promises
pub mod Cases
pub mod Once
pub mod Witnesses
