pub mod Later
pub mod Stepping
pub mod Finishing
pub mod Beginning
pub mod WatchedRows
