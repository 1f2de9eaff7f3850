-- The table by count in the lent lists: the last row's scores at the leaves, and each row's parents in its part of the flat list, row 1 first.
use Rattle.std.specs.Prelude.{◌≡◌, List, ℕ, suc, ◌+◌, ◌*◌, ◌≤◌, ◌<◌, Float, length, get_or}
use Rattle.path_pieces.specs.declared.lengths.Lengths.{Lengths}
use Rattle.path_by_count.specs.Table.{best_with, parent_with}
use Rattle.path_by_count_rows.specs.Rows.{leaf_score, behind, Laid, ScoreRow}

-- the parent of candidate j in row m + 1 of a flat list of rows of n entries
abbrev pub parent_in : List ℕ → ℕ → ℕ → ℕ → ℕ
parent_in parent n m j = get_or parent (m * n + j) 0

-- the rows 1 to k are filled
pub record RowsFilled (l : Lengths) (left right : List ℕ) (cut : List Float) (leaves : ℕ) (over : List ℕ) (cost : List Float) (parent : List ℕ) (k : ℕ) : Type 0 where
  pub laid : Laid l left right leaves over cost
  pub is_row : ScoreRow leaves (length left) over cost
  pub cuts : behind (length left) cost ≡ cut
  pub scores : (j : ℕ) → k ≤ j → j < length left → leaf_score leaves over cost j ≡ best_with l left right cut k j
  pub parents : (m j : ℕ) → m < k → suc m ≤ j → j < length left → parent_in parent (length left) m j ≡ parent_with l left right cut (suc m) j
