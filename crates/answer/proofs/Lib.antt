pub mod Lines
pub mod Enough
pub mod One
pub mod Program
