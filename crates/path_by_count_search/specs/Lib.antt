-- The search for the best predecessor over a row of the table by count, and that the pruned search gives the plain least (proofs/VisitLaws for the parts of a range).
pub mod Starts
pub mod StartsLaws
pub mod Bound
pub mod BoundLaws
pub mod Visit
pub mod Narrow
pub mod NarrowLaws
pub mod Theorems
