-- The words that definitions of every floor use. No law stands here: those about floats and scores are in base_laws, those about lists and rounding in base_code.
pub mod Floats
pub mod Limits
pub mod Lengths
pub mod Scores
pub mod Round
pub mod Lists
pub mod Bytes
pub mod Work
pub mod Layout
