-- The tests of "path over lent candidates" that need no path, and what they leave for the search.
pub mod Ends
pub mod EndsLaws
pub mod Costs
pub mod CostsLaws
pub mod Refusal
pub mod RefusalLaws
