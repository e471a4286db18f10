pub mod Copies
pub mod Takes
