-- Each end of the operation is what the definition gives.
use Rattle.std.specs.Prelude.{◌≡◌, List, Ok, Err, ℕ, Float, length}
use Rattle.std.proofs.Math.Path.{ap}
use Rattle.base_terms.specs.Lists.{filled}
use Rattle.base_terms.specs.Work.{Work, cleared}
use Rattle.path_pieces.specs.declared.lengths.Lengths.{Lengths}
use Rattle.path_pieces.specs.declared.mode.Mode.{Mode}
use Rattle.path_tests.specs.Refusal.{first_refusal_of}
use Rattle.path_tests.specs.declared.refusal.Refusal.{Refusal}
use Rattle.path_list.specs.declared.search.Error.TheVariants.{Refused}
use Rattle.path_list.specs.Answer.{Answer}
use Rattle.path_list.specs.Operation.{Outcome, outcome_of, sought_of, end_of, path_of}

module _ (l : Lengths) (left right : List ℕ) (cost : List Float) (mode : Mode) (path : List ℕ) (work : Work) (parent : List ℕ) where
  -- a refusal up to 13
  pub path_refused : (r : Refusal) → Err r ≡ first_refusal_of left right cost l mode (length work.u32s) (length work.u64s) (length work.f64s)
      → end_of (Err (Refused r)) path work parent ≡ path_of l left right cost mode path work parent
  unfolding path_of
  path_refused r e = rw (← e)

  -- what the search gave, with work memory cleared
  pub path-sought : Ok tt ≡ first_refusal_of left right cost l mode (length work.u32s) (length work.u64s) (length work.f64s)
      → (a : Answer) (path' : List ℕ) (work' : Work) (parent' : List ℕ) → outcome_of a path' ≡ sought_of l left right cost mode (length parent) path
      → work' ≡ cleared work → parent' ≡ filled 0 parent → end_of a path' work' parent' ≡ path_of l left right cost mode path work parent
  unfolding path_of
  path-sought e a path' work' parent' s w p =
      let x : a ≡ (sought_of l left right cost mode (length parent) path).answer = ap (λ (o : Outcome). o.answer) s in
      let y : path' ≡ (sought_of l left right cost mode (length parent) path).path = ap (λ (o : Outcome). o.path) s in
      rw (← e, x, y, w, p)
