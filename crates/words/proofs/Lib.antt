pub mod Apart
pub mod Digits
pub mod LineLaws
pub mod Own
pub mod WordLaws
