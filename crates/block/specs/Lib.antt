pub mod Block
pub mod Line
pub mod Promises
