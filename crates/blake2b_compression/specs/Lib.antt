pub mod Compression
pub mod Promises
