-- What candidates are made from, as work memory holds it for a recording of n frames: base_terms/specs/Layout says where each part stands.
use Rattle.std.specs.Prelude.{ℕ, ◌+◌, ◌*◌, Bool, not, List, eqb, Float, get_or, take, drop}
use Rattle.base_terms.specs.Layout.{side, runs_at, marks_at}

-- so many silences
abbrev pub silences_held : ℕ → List ℕ → List ℕ
silences_held silences work = take (2 * silences) work

-- each frame's quiet stretch
abbrev pub runs_held : ℕ → List ℕ → List ℕ
runs_held n work = take n (drop (runs_at n) work)

-- the level of each boundary
abbrev pub levels_held : ℕ → List Float → List Float
levels_held n workf = take (side n) workf

-- a point is marked at boundary k
abbrev pub marked : ℕ → List ℕ → ℕ → Bool
marked n work k = not (eqb (get_or work (marks_at n + k) 0) 0)
