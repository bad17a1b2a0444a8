pub mod Argon2
pub mod Calls
pub mod Promises
