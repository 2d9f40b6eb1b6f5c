pub mod Joins
pub mod Lines
pub mod RoundTrip
