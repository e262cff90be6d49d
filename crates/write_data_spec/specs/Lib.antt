-- What the beats of the write data channel mean, in the words of paper 02, T-05, and of source 004, A3.2.2, A3.4.1 and A3.4.4. Read in
-- this order.
pub mod Layout
pub mod Rules
pub mod Answers
pub mod Promises
pub mod Cases
