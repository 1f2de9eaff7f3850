-- What the number of the exported operation "path over lent candidates" means: 0 exactly where a path was found, which is then document 01's best path; and where 12 cannot come.
use Rattle.std.specs.Prelude.{◌≡◌, ◌↔◌, List, Ok, ℕ, ◌≤◌, Float, length as listLength}
use Rattle.base_terms.specs.Work.{Work}
use Rattle.path_pieces.specs.declared.lengths.Lengths.{Lengths}
use Rattle.path_pieces.specs.declared.mode.Mode.{Mode}
use Rattle.path_pieces.specs.declared.mode.Mode.TheVariants.{ByLength, ByCount}
use Rattle.path_rules.specs.declared.solved.Solved.{Solved}
use Rattle.path_list.specs.Operation.{End, path_of}
use Rattle.path_list.specs.Found.{FoundByLength, FoundByCount}
use Rattle.path_list.specs.Theorems.{found-by_length, found-by_count, number_zero, number_short}
use Rattle.path_list.specs.GivesLaws.{never_short}
use Rattle.capi.specs.Paths.{PathCalled, path_called_of}

-- 0 exactly where a path was found
pub called_zero : (e : End) (length over : ℕ) (cost : Float) → ((path_called_of e length over cost).number ≡ 0) ↔ ((s : Solved) × (e.answer ≡ Ok s))
unfolding path_called_of
called_zero e length over cost = number_zero e.answer

-- the path's length and score, as C finds them
abbrev pub solved_in : PathCalled → Solved
solved_in p = record { score = record { over = p.over; cost = p.cost }; len = p.length }

-- where a path was found they are the answer's
pub solved_is : (e : End) (length over : ℕ) (cost : Float) (s : Solved) → e.answer ≡ Ok s → s ≡ solved_in (path_called_of e length over cost)
unfolding path_called_of
solved_is e length over cost s q = rw q

module _ (l : Lengths) (left right : List ℕ) (cost : List Float) (path : List ℕ) (work : Work) (parent : List ℕ) (length over : ℕ) (score : Float) where
  -- what a call leaves
  abbrev called : Mode → PathCalled
  called mode = path_called_of (path_of l left right cost mode path work parent) length over score

  -- the path, its length and its score are those of document 01's best path: by length
  pub called-by_length : (called ByLength).number ≡ 0 → FoundByLength l left right cost path (called ByLength).path (solved_in (called ByLength))
  unfolding path_called_of
  called-by_length z =
      let (s, e) = (called_zero (path_of l left right cost ByLength path work parent) length over score).0 z in
      rw (solved_is (path_of l left right cost ByLength path work parent) length over score s e) at (found-by_length l left right cost path work parent s e)

  -- and by count
  pub called-by_count : (count : ℕ) → (called (ByCount count)).number ≡ 0
      → FoundByCount count l left right cost path (called (ByCount count)).path (solved_in (called (ByCount count)))
  unfolding path_called_of
  called-by_count count z =
      let (s, e) = (called_zero (path_of l left right cost (ByCount count) path work parent) length over score).0 z in
      rw (solved_is (path_of l left right cost (ByCount count) path work parent) length over score s e) at (found-by_count l left right cost path work parent s count e)

  -- 12 does not come where the output has an entry for each candidate
  pub called_roomy : (mode : Mode) → listLength left ≤ listLength path → (called mode).number ≡ 12 → ⊥
  unfolding path_called_of
  called_roomy mode whole e = never_short l left right cost path whole mode work parent (number_short (path_of l left right cost mode path work parent).answer e)
