-- The operation "candidate list".
pub mod CandidateList
pub mod CandidateListLaws
pub mod Theorems
