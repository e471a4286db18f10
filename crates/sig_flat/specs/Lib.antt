pub mod Runs
pub mod Joining
pub mod Flattening
pub mod Changed
pub mod laws
