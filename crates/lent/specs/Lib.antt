pub mod Lent
pub mod Promises
