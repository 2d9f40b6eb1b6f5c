pub mod Memory
pub mod Readings
