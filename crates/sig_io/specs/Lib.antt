pub mod Causes
pub mod Transfer
