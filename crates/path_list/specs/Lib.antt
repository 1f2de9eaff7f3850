-- The operation "path over lent candidates", on all input, and what its answer means.
pub mod Answer
pub mod Operation
pub mod OperationLaws
pub mod Search
pub mod SearchLaws
pub mod Found
pub mod Theorems
pub mod Gives
pub mod GivesLaws
pub mod Raised
pub mod RaisedTheorems
