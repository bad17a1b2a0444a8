pub mod Lent
pub mod Loop
pub mod Memory
pub mod Promises
pub mod Start
pub mod Tag
