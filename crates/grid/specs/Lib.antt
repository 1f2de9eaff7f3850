-- The frame grid of a recording: limits, boundaries, durations, and the tests 1 to 6.
pub mod Limits
pub mod Boundary
pub mod BoundaryLaws
pub mod Durations
pub mod DurationsLaws
pub mod FitLaws
pub mod Values
pub mod Words
pub mod WordsLaws
pub mod FlagsLaws
pub mod Validate
pub mod ValidateLaws
pub mod ValuesLaws
