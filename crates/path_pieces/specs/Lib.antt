-- What a piece and a cut add to a path's score, how scores compare, the lowest candidate whose score is least, and the domain of the path search.
pub mod Limits
pub mod Pieces
pub mod PiecesLaws
pub mod Domain
pub mod DomainLaws
pub mod Least
pub mod LeastLaws
pub mod PredecessorLaws
pub mod OrderLaws
