-- A path's score: the number of its pieces over the limit first, then its cost. Rust's derived order of `Score`; a and b count pieces, x and y are costs.
use Rattle.std.specs.Prelude.{ℕ, Bool, ◌&&◌, ◌||◌, ltb, eqb, Float}
use Rattle.std.specs.Float.Ieee.{lt, eq, le}

-- at most
abbrev pub score_le : ℕ → Float → ℕ → Float → Bool
score_le a x b y = ltb a b || (eqb a b && le x y)

-- below
abbrev pub score_lt : ℕ → Float → ℕ → Float → Bool
score_lt a x b y = ltb a b || (eqb a b && lt x y)

-- equal
abbrev pub score_eq : ℕ → Float → ℕ → Float → Bool
score_eq a x b y = eqb a b && eq x y
