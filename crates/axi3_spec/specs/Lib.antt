-- What cutting a burst for an AXI3 board means, in the words of paper 02, T-02. Read in this order.
pub mod Cut
pub mod Answers
pub mod Promises
pub mod Cases
