-- Where the pieces that end at a candidate may start: document 01's "piece rule" leaves a range, since a piece that starts further back is longer.
use Rattle.std.specs.Prelude.{◌≡◌, Bool, cond, List, ℕ, zero, suc, ◌-◌, ◌<◌, length, get_or}
use Rattle.path_pieces.specs.Pieces.{is_within}

-- the first index from `from` on that passes the test, or the one after n that fail
unfoldable pub first_passing : (ℕ → Bool) → ℕ → ℕ → ℕ
first_passing test from zero = from
first_passing test from (suc n) = cond (test from) from (first_passing test (suc from) n)

-- the first candidate whose piece to j is within the limit, and j - 1 where that is later
unfoldable pub first_start : ℕ → List ℕ → List ℕ → ℕ → ℕ
first_start limit left right j = first_passing (is_within limit left right j) 0 (j - 1)

-- the list of them
pub record FirstStarts (limit : ℕ) (left right first : List ℕ) : Type 0 where
  pub each : length first ≡ length left
  pub start : (j : ℕ) → j < length left → get_or first j 0 ≡ first_start limit left right j
