pub mod Walking
pub mod Fetching
pub mod Waiting
