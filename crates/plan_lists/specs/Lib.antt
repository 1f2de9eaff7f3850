-- What is written within one of a plan's work lists from what else stands in it, and whether the parent list is long enough.
pub mod Within
pub mod WithinLaws
pub mod CopyLaws
pub mod Back
pub mod BackLaws
pub mod Positions
pub mod EndsLaws
pub mod PositionsLaws
pub mod WrittenLaws
pub mod Parents
