mod Closes
mod Empties
mod Fronts
mod Gathers
pub mod Gives
mod Keeping
mod Laid
mod Looks
mod Opens
mod Owing
mod Peels
mod Reaches
mod Readies
mod Rings
mod Shown
pub mod Stepping
mod Takes
mod Totals
mod Views
pub mod Watching
