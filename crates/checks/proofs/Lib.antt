pub mod Settled
pub mod Tags
