pub mod Answered
pub mod Numbers
pub mod Rows
pub mod Settled
