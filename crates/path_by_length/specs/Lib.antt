-- The search by length: its table. That the path of the table is the best one is proved in proofs/ (Theorems). The rules of a path are those of path_rules.
pub mod Table
pub mod WayLaws
pub mod WalkLaws
pub mod Solved
