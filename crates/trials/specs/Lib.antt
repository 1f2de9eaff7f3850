-- Document 01's trials, worked out by computation from the definitions.
pub mod Trials
