pub mod Jobs
pub mod Blocks
