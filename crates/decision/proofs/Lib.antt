pub mod Ring
pub mod Bounds
pub mod Steps
pub mod Products
pub mod Roots
pub mod Spread
pub mod Ranges
pub mod Averages
