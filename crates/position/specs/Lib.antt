pub mod Position
pub mod Window
pub mod Promises
