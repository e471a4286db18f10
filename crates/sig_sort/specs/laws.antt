-- What a sorted view gives leads from view to view.
pub mod Sorting
