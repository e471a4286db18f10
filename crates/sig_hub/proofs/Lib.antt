pub mod AllOf
pub mod Called
pub mod Entered
pub mod Fair
pub mod Fetching
pub mod Gathered
pub mod InTurn
pub mod Leaving
pub mod Listed
pub mod Ported
mod Rung
pub mod Seated
pub mod Sends
pub mod Started
pub mod Stepped
pub mod StillIn
