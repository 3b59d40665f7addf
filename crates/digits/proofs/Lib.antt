pub mod Digits
pub mod Buffers
