pub mod Hex
pub mod Promises
