-- Document 01: "one grid point for each block (quietest, the first of equals)"; blocks restart after each blocked stretch, as in the Rust's `candidates`.
-- `grid_points` and `marks_of` are what contracts and theorems cite; `blocked` says of a boundary whether it is, `levels` has the level at each boundary.
use Rattle.std.specs.Prelude.{ℕ, zero, suc, ◌+◌, ◌-◌, min, Bool, false, not, ◌||◌, cond, List, [], ◌∷◌, ltb, eqb, Float, length, get_or}
use Rattle.base_terms.specs.Lists.{tabulate}
use Rattle.candidate_costs.specs.Quietest.{quietest_of}
use Rattle.candidate_points.specs.Flags.{flag_of}

-- ---- a block

-- the first blocked boundary among `left` from k on, or the boundary after them
unfoldable pub open_to : (ℕ → Bool) → ℕ → ℕ → ℕ
open_to blocked zero k = k
open_to blocked (suc left) k = cond (blocked k) k (open_to blocked left (suc k))

-- document 01's "block": it starts at an open boundary k, and ends `block` boundaries later, at the first blocked one or at the span's last, whichever is first
unfoldable pub block_end : (ℕ → Bool) → ℕ → ℕ → ℕ → ℕ
block_end blocked block last k = open_to blocked (min (k + block) last - k) k

-- ---- the points

-- the grid points from boundary k on, with fuel for as many steps as boundaries are left: a blocked boundary is passed over, at an open one a block starts
unfoldable pub points_from : (ℕ → Bool) → List Float → ℕ → ℕ → ℕ → ℕ → List ℕ
points_from blocked levels block last zero k = []
points_from blocked levels block last (suc fuel) k =
    cond (ltb k last)
    (cond (blocked k) (points_from blocked levels block last fuel (suc k))
    (quietest_of levels k (block_end blocked block last k) ∷ points_from blocked levels block last fuel (block_end blocked block last k)))
    []

-- the grid points of the span from boundary `first` to boundary `last`
unfoldable pub grid_points : (ℕ → Bool) → List Float → ℕ → ℕ → ℕ → List ℕ
grid_points blocked levels block first last = points_from blocked levels block last (last - suc first) (suc first)

-- ---- as marks

-- k is one of some numbers
unfoldable pub is_in : List ℕ → ℕ → Bool
is_in [] k = false
is_in (p ∷ ps) k = eqb p k || is_in ps k

-- boundary k is a grid point
unfoldable pub is_point : (ℕ → Bool) → List Float → ℕ → ℕ → ℕ → ℕ → Bool
is_point blocked levels block first last k = is_in (grid_points blocked levels block first last) k

-- a flag that is not 0
abbrev pub is_set : List ℕ → ℕ → Bool
is_set flags k = not (eqb (get_or flags k 0) 0)

-- boundary k's mark, from the flags of blocked boundaries
unfoldable pub mark_at : List Float → ℕ → ℕ → ℕ → List ℕ → ℕ → ℕ
mark_at levels block first last flags k = flag_of (is_point (is_set flags) levels block first last k)

-- the marks of all boundaries
unfoldable pub marks_of : List Float → ℕ → ℕ → ℕ → List ℕ → List ℕ
marks_of levels block first last flags = tabulate (mark_at levels block first last flags) (length flags)
