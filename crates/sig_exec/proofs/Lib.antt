pub mod Moments
pub mod Planned
pub mod Polls
pub mod Starts
pub mod Works
