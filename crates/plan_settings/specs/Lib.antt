-- The settings of a plan, tests 9 and 10.
pub mod Tests
pub mod TestsLaws
