pub mod Calls
pub mod Lines
