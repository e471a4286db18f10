pub mod Flow
pub mod SoundRows
pub mod Joins
pub mod laws
