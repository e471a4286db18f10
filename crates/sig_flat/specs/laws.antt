-- What lists of lists give leads from view to view.
pub mod Runs
pub mod Joining
pub mod Blocks
pub mod Flattening
