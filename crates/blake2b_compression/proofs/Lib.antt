pub mod Counting
pub mod Rounds
pub mod Settled
pub mod Vectors
