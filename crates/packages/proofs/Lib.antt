pub mod Emptied
pub mod Lent
