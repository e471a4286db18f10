pub mod Awaiting
pub mod Bounded
pub mod Clamping
pub mod Numbered
