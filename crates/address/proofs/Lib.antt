pub mod AddressFree
pub mod Addresses
mod Beginning
pub mod Cases
pub mod Settled
pub mod Vectors
