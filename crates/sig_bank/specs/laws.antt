-- What each view that chooses gives leads from view to view.
pub mod Banks
