pub mod Choices
pub mod Banks
pub mod Nodes
pub mod Starting
pub mod Steps
