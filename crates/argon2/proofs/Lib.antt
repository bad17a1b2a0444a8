pub mod Inputs
mod Parts
pub mod Settled
pub mod StartWrites
