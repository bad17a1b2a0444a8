pub mod Answers
pub mod Cases
pub mod Lines
pub mod Promises
