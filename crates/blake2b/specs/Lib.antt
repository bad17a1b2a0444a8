pub mod Blake2b
pub mod Promises
pub mod Stream
