pub mod Wider
pub mod Passing
pub mod Statements
