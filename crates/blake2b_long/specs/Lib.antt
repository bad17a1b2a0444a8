pub mod Long
pub mod Promises
