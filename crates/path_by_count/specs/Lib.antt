-- The search by count: its table, that the path of the table is the best, and the table in lent lists. The rules of a path are those of path_rules.
pub mod Table
pub mod TableLaws
pub mod Theorems
pub mod Filled
pub mod FilledLaws
pub mod Walk
pub mod WalkLaws
pub mod Counted
pub mod CountedLaws
