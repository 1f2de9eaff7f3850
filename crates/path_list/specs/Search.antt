-- What the search inside the operation asks.
use Rattle.std.specs.Prelude.{◌≡◌, List, ℕ, ◌≤◌, ◌<◌, Float, length}
use Rattle.base_terms.specs.Work.{work_length}
use Rattle.path_pieces.specs.Domain.{Searchable}
use Rattle.path_pieces.specs.declared.lengths.Lengths.{Lengths}
use Rattle.path_pieces.specs.declared.mode.Mode.{Mode}
use Rattle.path_pieces.specs.declared.mode.Mode.TheVariants.{ByCount}

-- the domain, a count above 0, and work lists of 16 entries a candidate
pub record Workable (l : Lengths) (left right : List ℕ) (cost : List Float) (mode : Mode) (work32 : List ℕ) (workf : List Float) : Type 0 where
  pub domain : Searchable l left right cost
  pub counted : (count : ℕ) → mode ≡ ByCount count → 0 < count
  pub enough32 : work_length (length left) ≤ length work32
  pub enoughf : work_length (length left) ≤ length workf
