pub mod Reader
pub mod Writer
pub mod RoundTrips
