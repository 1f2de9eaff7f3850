-- From paths over candidates to demand 3. No code. Definitions stand in Along, Across, Completed, Added, Best and Ready, apart from the laws; demand 3 itself, and what leads to it from the pieces of a path, is proved in proofs/ (PlanTheorems).
pub mod Along
pub mod Across
pub mod AlongLaws
pub mod AcrossLaws
pub mod Completed
pub mod ThroughLaws
pub mod Added
pub mod AddedLaws
pub mod HeldLaws
pub mod Best
pub mod Ready
pub mod Trials
