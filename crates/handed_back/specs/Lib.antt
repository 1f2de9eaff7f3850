-- What an operation hands back beside its number, by its answer.
pub mod Silences
pub mod Candidates
pub mod Plan
pub mod Path
