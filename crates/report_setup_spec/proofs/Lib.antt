-- Laws of the sheet: digits, what is promised of the grammar, its worked cases, and what shows that contract and promises say
-- something.
pub mod Digits
pub mod Promises
pub mod Cases
pub mod Once
pub mod Witnesses
