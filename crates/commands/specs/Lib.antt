pub mod Behind
pub mod Faults
pub mod Fields
pub mod Parsing
