pub mod Filling
pub mod Inner
pub mod Promises
