pub mod Watching
pub mod Showing
pub mod Reporting
pub mod Stages
pub mod Program
