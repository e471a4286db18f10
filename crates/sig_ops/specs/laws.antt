-- What an impl's law has to cite: what each operator gives for a difference leads from view to view.
pub mod Leading
pub mod Mapping
pub mod Filtering
pub mod Following
pub mod Enumerating
pub mod TagPlaces
