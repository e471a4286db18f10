pub mod Further
pub mod Halves
pub mod Standing
