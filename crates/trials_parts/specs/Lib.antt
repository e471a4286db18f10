pub mod Trial
pub mod Moving
