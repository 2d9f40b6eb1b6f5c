pub mod Bytes
pub mod Render
pub mod Report
pub mod Unwritten
pub mod Words
pub mod Writes
