pub mod Address
pub mod Promises
