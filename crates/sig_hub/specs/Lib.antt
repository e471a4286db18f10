pub mod Ends
pub mod Hubs
pub mod Passes
pub mod Plans
pub mod Polls
pub mod Seats
pub mod Starting
pub mod Turns
