-- When a call gives a path: what it needs of its limit and of its own lists, where candidates, costs, preferences and mode are known to pass their tests.
use Rattle.std.specs.Prelude.{◌≡◌, List, Ok, ℕ, ◌*◌, ◌≤◌, ◌<◌, Float, length}
use Rattle.base_terms.specs.Limits.{max_len}
use Rattle.base_terms.specs.Work.{Work, work_length}
use Rattle.path_pieces.specs.declared.lengths.Lengths.{Lengths}
use Rattle.path_pieces.specs.declared.mode.Mode.{Mode}
use Rattle.path_pieces.specs.declared.mode.Mode.TheVariants.{ByLength, ByCount}
use Rattle.path_rules.specs.Paths.{piece_count}
use Rattle.path_rules.specs.BestPath.{BestPathByLength}
use Rattle.path_rules.specs.declared.solved.Solved.{Solved}
use Rattle.path_list.specs.Answer.{Answer}

-- a call gives a path
abbrev pub Gives : Answer → Type 0
Gives answer = (s : Solved) × (answer ≡ Ok s)

-- its limit and its own lists are enough for it, where no other test fails
pub record Enough (l : Lengths) (left right : List ℕ) (cost : List Float) (mode : Mode) (path : List ℕ) (work : Work) (parent : List ℕ) : Type 0 where
  -- not 16: the limit is at most 2 ^ 40
  pub limit : l.limit ≤ max_len
  -- not 13: the u32 list is long enough
  pub u32s : work_length (length left) ≤ length work.u32s
  -- and the u64 list
  pub u64s : work_length (length left) ≤ length work.u64s
  -- and the f64 list
  pub f64s : work_length (length left) ≤ length work.f64s
  -- not 14, by count alone: the limit takes no part in it
  pub parents : (count : ℕ) → mode ≡ ByCount count → piece_count left count * length left ≤ length parent
  -- not 12: by length the best path fits, which under a longer limit may have more candidates
  pub room : mode ≡ ByLength → (best : List ℕ) → BestPathByLength l left right cost best → length best ≤ length path
  -- by count one candidate more than pieces fits, whatever the limit
  pub room_by_count : (count : ℕ) → mode ≡ ByCount count → piece_count left count < length path
