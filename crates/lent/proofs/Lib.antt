pub mod Feeding
pub mod Product
pub mod Settled
pub mod Vectors
