-- What comes of a sample of stored jobs and listings when they are replayed.
pub mod Record
pub mod RecordLaws
pub mod Parts
pub mod Tally
pub mod TallyLaws
