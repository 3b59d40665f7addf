pub mod Jobs
pub mod Moments
pub mod Links
pub mod Steps
pub mod Laws
pub mod Masks
