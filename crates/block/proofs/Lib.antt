pub mod Laws
pub mod Line
pub mod Mixing
pub mod Settled
pub mod Stepping
pub mod Vectors
