-- What stands on the pieces of a path and on the points that are added: demand 3 of the plans, from paths over candidates.
pub mod PiecesLaws
pub mod CountLaws
pub mod CountTheorems
pub mod LengthLaws
pub mod LengthTheorems
pub mod StepLaws
pub mod CompletedLaws
pub mod PlanTheorems
