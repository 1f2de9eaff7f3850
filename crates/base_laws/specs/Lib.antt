-- Laws of IEEE 754 arithmetic that the best path, the bound of the pruned search and a plan's flags stand on. f is either format throughout; no law assumes anything.
-- A law about an operation of lib.Ieee is named float-OPERATION-WHAT, and one about a definition of base_terms begins with that definition's word.
-- `nonneg x` is "not NaN and not below zero", a "number" is any value but NaN, and `finite` and `positive` are those of lib.Ieee.Scale and lib.Ieee.Positive.
pub mod Order
pub mod Nonneg
pub mod Sums
pub mod Differences
pub mod Products
pub mod Quotients
pub mod Whole
pub mod Nearest
pub mod Clamp
pub mod Square
pub mod Lengths
pub mod Scores
-- Steps that the laws are proved by, and that no client needs: tests as types; signed numbers as differences; the order by cases; what `round` keeps.
pub mod Tests
pub mod Signed
pub mod Compare
pub mod Rounding
