-- What views of a map give leads from view to view.
pub mod Tables
