-- The laws of the table by length, and that its path is the best one.
pub mod TableLaws
pub mod BestLaws
pub mod SolvedLaws
pub mod Theorems
