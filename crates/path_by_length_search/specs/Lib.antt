-- The search for a candidate's best predecessor, by length.
pub mod Backward
pub mod BackwardLaws
