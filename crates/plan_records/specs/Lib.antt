-- The plan's numbers as records.
pub mod Records
pub mod Pieces
pub mod Cuts
pub mod RecordsLaws
pub mod PiecesLaws
pub mod CutsLaws
pub mod Theorems
