-- A plan along a path of candidates, as lists of numbers, and what the operation Plan answers.
pub mod Flags
pub mod FlagsLaws
pub mod Along
pub mod Drawn
pub mod AlongLaws
pub mod DrawnLaws
pub mod NumbersLaws
pub mod PlanAlong
pub mod PlanAlongLaws
pub mod Answer
pub mod AnswerLaws
pub mod Output
pub mod OutputLaws
pub mod Trials
