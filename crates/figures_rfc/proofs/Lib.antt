pub mod Blocks
pub mod Rfc
