pub mod Feeding
pub mod Hashing
pub mod Settled
pub mod Streaming
pub mod Vectors
