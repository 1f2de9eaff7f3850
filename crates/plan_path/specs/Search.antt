-- What the path search reads of a plan's work memory, for a recording of so many frames; base_terms/specs/Layout has the places.
use Rattle.std.specs.Prelude.{List, ℕ, ◌≤◌, ◌<◌, Float, length, take}
use Rattle.base_terms.specs.Layout.{side, rights_at, costs_at, end_u32, end_u64, end_f64}
use Rattle.path_pieces.specs.declared.lengths.Lengths.{Lengths}
use Rattle.path_pieces.specs.Domain.{Searchable}
use Rattle.plan_lists.specs.Within.{part_at}

-- n candidates as the search takes them: their left positions
abbrev pub lefts_in : ℕ → List ℕ → List ℕ
lefts_in n positions = take n positions

-- their right positions
abbrev pub rights_in : ℕ → ℕ → List ℕ → List ℕ
rights_in frames n positions = part_at (rights_at frames) n positions

-- and the costs of the cuts at them
abbrev pub costs_in : ℕ → ℕ → List Float → List Float
costs_in frames n costs = part_at (costs_at frames) n costs

-- they are of the search's domain, the lists have room, and places can be worked out
pub record SearchRoom (l : Lengths) (frames n : ℕ) (work positions : List ℕ) (costs : List Float) : Type 0 where
  pub domain : Searchable l (lefts_in n positions) (rights_in frames n positions) (costs_in frames n costs)
  pub bounded : frames < 4294967296
  pub few : n ≤ side frames
  pub u32s : end_u32 frames ≤ length work
  pub u64s : end_u64 frames ≤ length positions
  pub f64s : end_f64 frames ≤ length costs
