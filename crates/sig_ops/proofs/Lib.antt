pub mod Places
pub mod Sizing
pub mod Totals
pub mod TagIndexes
