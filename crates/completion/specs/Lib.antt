-- Completion: by count, the cuts that are added; by length, the points between neighbours.
pub mod CutsLaws
pub mod Counted
pub mod CountedLaws
pub mod Shares
pub mod SharesLaws
pub mod MarkingLaws
pub mod Bridge
pub mod BridgeLaws
pub mod Complete
pub mod CompleteLaws
pub mod Bridged
pub mod BridgedLaws
pub mod Trials
