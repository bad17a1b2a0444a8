pub mod Settled
pub mod Text
