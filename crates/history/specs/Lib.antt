pub mod Runs
pub mod Memory
pub mod Turns
pub mod Rule
pub mod Contest
pub mod Setups
