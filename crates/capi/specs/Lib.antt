-- What C hands over and what each exported call leaves: definitions and theorems.
pub mod Grid
pub mod GridLaws
pub mod Silences
pub mod SilencesTheorems
pub mod Paths
pub mod PathsTheorems
pub mod RaisedTheorems
pub mod Settings
pub mod Candidates
pub mod CandidatesTheorems
pub mod Plans
pub mod PlansTheorems
pub mod RecordsTheorems
