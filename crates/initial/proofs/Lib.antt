pub mod Header
pub mod HashInput
pub mod Laid
pub mod MemoryCost
pub mod Settled
