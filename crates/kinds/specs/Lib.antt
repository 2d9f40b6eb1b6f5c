pub mod Meaning
pub mod Entries
pub mod Printed
pub mod Handbook
pub mod Bounds
