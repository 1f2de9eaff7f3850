-- Numbers and flags as callers hand them over, and the kinds of document 01 that they say.
pub mod Flagged
pub mod Numbered
pub mod NumberedLaws
