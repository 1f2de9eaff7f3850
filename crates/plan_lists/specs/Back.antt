-- What the walk back needs that writes within the list that it reads.
use Rattle.std.specs.Prelude.{◌≡◌, List, ℕ, ◌+◌, ◌-◌, ◌≤◌, length}
use Rattle.path_by_length.specs.Table.{way_to}
use Rattle.path_by_length.specs.Solved.{parent_at, Parents}
use Rattle.plan_lists.specs.Within.{part_at}

-- the parents of n candidates stand from `parents` on, and behind them, from `at` on, there are `len` places for the path to the last one, which is so long
pub record WayRoom (parents n at : ℕ) (work : List ℕ) (len : ℕ) : Type 0 where
  pub leads : Parents (part_at parents n work) (n - 1)
  pub long : len ≡ length (way_to (parent_at (part_at parents n work)) (n - 1))
  pub apart : parents + n ≤ at
  pub room : at + len ≤ length work
