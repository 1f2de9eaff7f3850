-- The place at which the search over the tree starts: a node whose range holds all candidates of the query, halved as long as one half does.
use Rattle.std.specs.Prelude.{cond, List, ℕ, ◌+◌, ◌-◌, ◌*◌, ◌/◌, ◌≤◌, ltb, Float}
use Rattle.path_by_count_search.specs.declared.narrow.Place.{Place}
use Rattle.path_by_count_tree.specs.Tree.{Covers}

-- where a place's range is halved
abbrev pub middle_of : Place → ℕ
middle_of p = p.lo + (p.hi - p.lo) / 2

-- its lower half
abbrev pub lower_of : Place → Place
lower_of p = record { node = p.node * 2; lo = p.lo; hi = middle_of p }

-- its upper half
abbrev pub upper_of : Place → Place
upper_of p = record { node = p.node * 2 + 1; lo = middle_of p; hi = p.hi }

-- the half that holds from .. to, or the place itself where neither does
unfoldable pub narrower_of : Place → ℕ → ℕ → Place
narrower_of p from to = cond (ltb (middle_of p) to) (cond (ltb from (middle_of p)) p (upper_of p)) (lower_of p)

-- the place's node bounds its range, and the range holds from .. to
pub record Encloses (leaves : ℕ) (over : List ℕ) (cost : List Float) (from to : ℕ) (p : Place) : Type 0 where
  pub covers : Covers leaves to over cost p.node p.lo p.hi
  pub low : p.lo ≤ from
  pub high : to ≤ p.hi
