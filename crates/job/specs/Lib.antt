-- What bytes say as a job: document 01, "The job and the listing".
pub mod Limits
pub mod Fields
pub mod Reads
pub mod ReadsLaws
pub mod Settings
pub mod Segment
pub mod Recorded
pub mod Answer
pub mod Job
pub mod JobLaws
pub mod Encode
pub mod EncodeLaws
pub mod Theorems
pub mod Trials
