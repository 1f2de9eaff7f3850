-- From a recording and the settings of a plan to its candidates.
pub mod SpanIn
pub mod CandidatesIn
pub mod NeededLevels
pub mod Holds
pub mod GridPointMarks
pub mod Prepare
pub mod PrepareLaws
pub mod FinderLaws
pub mod Stretches
pub mod PlanCandidates
pub mod Theorems
