pub mod Play
pub mod Promises
pub mod Turns
