pub mod QuickBlock
pub mod QuickHash
pub mod Whole
pub mod Xor
