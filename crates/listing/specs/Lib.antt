-- The listing of document 01, as it is written. What the digits of a number are is proved in proofs/.
pub mod Text
pub mod Rows
pub mod Listing
pub mod Written
pub mod WrittenLaws
pub mod LineLaws
pub mod Lines
pub mod Trials
