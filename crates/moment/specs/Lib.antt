pub mod Jobs
pub mod Shapes
pub mod Moments
pub mod Laws
pub mod Masks
