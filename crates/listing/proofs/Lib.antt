-- How a number is printed: what its digits are, and how many there are.
pub mod TextLaws
pub mod FitsLaws
