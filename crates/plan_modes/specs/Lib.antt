-- The plan of a span that work memory holds, by length and by count. Definitions that contracts cite stand in Plan and Lengths.
pub mod Plan
pub mod Lengths
pub mod ByLengthLaws
pub mod ByCountLaws
