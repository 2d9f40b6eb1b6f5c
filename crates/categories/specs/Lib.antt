pub mod Meaning
pub mod Printed
pub mod Handbook
pub mod Bounds
