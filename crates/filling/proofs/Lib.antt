pub mod Commute
pub mod Filling
pub mod Inner
pub mod Settled
pub mod Stored
