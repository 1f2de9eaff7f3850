-- The domain of the path search: what refusals 15 to 17 leave of lent candidates, costs and preferences. A cut's cost may be +inf here, since finite weights of a plan can give that.
use Rattle.std.specs.Prelude.{◌≡◌, List, ℕ, suc, ◌≤◌, ◌<◌, T, Float, length, get_or}
use Rattle.std.specs.Float.{nan, binary64}
use Rattle.base_terms.specs.Floats.{nonneg}
use Rattle.base_laws.specs.Lengths.{Preferences}
use Rattle.base_terms.specs.Limits.{max_len}
use Rattle.path_pieces.specs.Limits.{max_index}
use Rattle.path_pieces.specs.declared.lengths.Lengths.{Lengths}

-- document 01's "candidates" in order: the left end of each is not above its right end, nor that above the next left end
pub record Candidates (left right : List ℕ) : Type 0 where
  pub some : 0 < length left
  pub few : length left ≤ suc max_index
  pub paired : length right ≡ length left
  pub inside : (i : ℕ) → i < length left → get_or left i 0 ≤ get_or right i 0
  pub apart : (i : ℕ) → suc i < length left → get_or right i 0 ≤ get_or left (suc i) 0
  pub bounded : (i : ℕ) → i < length left → get_or right i 0 ≤ max_len

-- the costs of n cuts: none is negative, and none is a NaN
pub record Costs (cut : List Float) (n : ℕ) : Type 0 where
  pub each : length cut ≡ n
  pub cost_nonneg : (i : ℕ) → i < n → T (nonneg (get_or cut i nan))

-- length preferences: the limit may be any number
pub record Preferred (l : Lengths) : Type 0 where
  pub preferences : Preferences binary64 l.weights.target l.weights.short l.min l.target

-- all of it
pub record Searchable (l : Lengths) (left right : List ℕ) (cut : List Float) : Type 0 where
  pub candidates : Candidates left right
  pub costs : Costs cut (length left)
  pub preferred : Preferred l
