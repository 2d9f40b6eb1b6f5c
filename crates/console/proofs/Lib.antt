pub mod Follow
pub mod One
pub mod Spoken
pub mod Turns
