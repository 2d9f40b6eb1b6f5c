pub mod Sample
pub mod Verdicts
pub mod Answer
