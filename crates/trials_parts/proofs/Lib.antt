mod Edited
pub mod Seeing
pub mod Ready
