pub mod Exactly
pub mod Jobs
pub mod Lanes
pub mod Settled
pub mod Standing
pub mod Tests
