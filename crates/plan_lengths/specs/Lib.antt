-- What a plan prefers of its pieces' lengths.
pub mod PlanLengths
pub mod QuotientLaws
pub mod PlanLengthsLaws
