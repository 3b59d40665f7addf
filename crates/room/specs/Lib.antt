pub mod Checks
pub mod Good
