pub mod Tasks
pub mod Polling
pub mod GoingOn
pub mod FirstPolls
pub mod Watching
pub mod laws
