-- The walk back through a flat list of rows: the parent of a candidate in one row is a candidate of the row before.
use Rattle.std.specs.Prelude.{List, [], ◌∷◌, ◌++◌, ℕ, zero, suc, ◌*◌, ◌≤◌, ◌<◌, length}
use Rattle.path_pieces.specs.Limits.{max_index}
use Rattle.path_by_count.specs.Filled.{parent_in}

-- the path of k pieces to candidate j that the list gives
unfoldable pub way_in : List ℕ → ℕ → ℕ → ℕ → List ℕ
way_in parent n zero j = j ∷ []
way_in parent n (suc k) j = way_in parent n k (parent_in parent n k j) ++ (j ∷ [])

-- the list has rows for `pieces` pieces over n candidates, and each parent is an earlier candidate that one piece fewer reaches
pub record Back (parent : List ℕ) (n pieces : ℕ) : Type 0 where
  pub few : n ≤ suc max_index
  pub fewer : pieces < n
  pub room : pieces * n ≤ length parent
  pub falling : (m j : ℕ) → m < pieces → suc m ≤ j → j < n → (m ≤ parent_in parent n m j) × (parent_in parent n m j < j)
