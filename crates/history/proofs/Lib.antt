pub mod Invariant
pub mod Kept
pub mod Errors
pub mod Sheets
pub mod Sharing
pub mod Turning
pub mod Contesting
