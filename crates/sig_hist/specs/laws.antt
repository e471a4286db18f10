-- Laws of histories.
pub mod Histories
