-- The rows of the table by count.
pub mod First
pub mod FirstLaws
pub mod Rows
pub mod RowsLaws
