pub mod Settled
pub mod Sizes
pub mod Versions
pub mod Within
