-- What a burst means, in the words of paper 01 and of source 004, chapter A3.4. Read in this order.
pub mod Address
pub mod Transfer
pub mod Checks
pub mod Legal
pub mod Answers
pub mod Cases
