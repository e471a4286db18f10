pub mod lists
pub mod boxed
