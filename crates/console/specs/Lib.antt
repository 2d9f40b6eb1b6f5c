pub mod Denials
pub mod Effects
pub mod Transcripts
