pub mod Lawful
pub mod Playing
pub mod Text
