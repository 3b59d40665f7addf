pub mod Chains
pub mod Tests
pub mod Jobs
pub mod Counts
pub mod Blocks
