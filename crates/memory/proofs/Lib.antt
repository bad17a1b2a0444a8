mod LastBlocks
pub mod Lent
pub mod Loop
pub mod Memory
pub mod Settled
pub mod StartMemory
