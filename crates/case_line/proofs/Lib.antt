pub mod Answering
pub mod Longest
pub mod Pushing
pub mod Settled
pub mod Spans
