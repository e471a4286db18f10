pub mod Banks
pub mod Tables
pub mod laws
