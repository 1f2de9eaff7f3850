-- The walk over the boundaries that collects a plan's candidates in work memory.
pub mod Held
pub mod HeldLaws
pub mod Collect
pub mod CollectLaws
pub mod CollectStep
pub mod CollectNext
pub mod CollectDone
pub mod CollectAll
