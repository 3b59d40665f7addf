pub mod Turns
pub mod Pasts
