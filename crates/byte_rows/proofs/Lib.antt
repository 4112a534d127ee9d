-- What is known of rows of any width: callers cite it.
pub mod RowLaws
