pub mod Pieces
pub mod Settled
pub mod Writing
