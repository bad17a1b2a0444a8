pub mod Limits
pub mod Promises
