-- What is claimed of two calls over the same candidates, costs, target, minimum, weights and mode, the second with another limit: document 02's S-12.
-- RaisedTheorems proves it, whatever work lists, parent list and output each call was lent.
use Rattle.std.specs.Prelude.{◌≡◌, List, Ok, ℕ, ◌≤◌, T, length}
use Rattle.base_terms.specs.Work.{Work}
use Rattle.path_pieces.specs.Pieces.{at_most}
use Rattle.path_pieces.specs.declared.mode.Mode.{Mode}
use Rattle.path_pieces.specs.declared.mode.Mode.TheVariants.{ByLength}
use Rattle.path_rules.specs.declared.solved.Solved.{Solved}
use Rattle.path_list.specs.Answer.{Answer}

-- "where both calls give a path: the score after raising is at most the score before, over-long pieces first and then cost"
abbrev pub NoWorse : Answer → Answer → Type 0
NoWorse before after = (s t : Solved) → before ≡ Ok s → after ≡ Ok t → T (at_most t.score s.score)

-- the second call's lists are no shorter than the first's, so that they are enough if those were
pub record NoShorter (left : List ℕ) (mode : Mode) (path path' : List ℕ) (work work' : Work) (parent parent' : List ℕ) : Type 0 where
  -- the u32 work list
  pub u32s : length work.u32s ≤ length work'.u32s
  -- the u64 work list
  pub u64s : length work.u64s ≤ length work'.u64s
  -- the f64 work list
  pub f64s : length work.f64s ≤ length work'.f64s
  -- the parent list
  pub parents : length parent ≤ length parent'
  -- the output
  pub paths : length path ≤ length path'
  -- which by length has an entry for each candidate: the path may have more than before
  pub whole : mode ≡ ByLength → length left ≤ length path'
