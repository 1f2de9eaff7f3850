-- The costs copied into work memory stand where the search reads them, and each end of the search is what its definition gives.
use Rattle.std.specs.Prelude.{◌≡◌, List, Ok, Err, ◌++◌, ℕ, ◌+◌, ◌-◌, ◌*◌, ◌≤◌, ◌<◌, Float, take, drop}
use Rattle.std.proofs.Math.Path.{refl}
use Rattle.std.proofs.Common.{mul-le-mul, arith, le-leb, length-append, length-take, length-drop, length-take-le, take_at, drop_at}
use Rattle.std.proofs.lemmas.Bool.{lt-leb}
use borrow.Rule.Slice.PartMut.{put_mid}
use Rattle.std.proofs.Math.ListN.{length}
use Rattle.base_terms.specs.Layout.{behind_table, end_by_length, behind_tree, end_by_count}
use Rattle.base_terms.specs.Lists.{onto}
use Rattle.path_pieces.specs.Limits.{max_candidates}
use Rattle.path_pieces.specs.declared.lengths.Lengths.{Lengths}
use Rattle.path_pieces.specs.declared.mode.Mode.{Mode}
use Rattle.path_pieces.specs.declared.mode.Mode.TheVariants.{ByLength, ByCount}
use Rattle.path_pieces.specs.declared.score.Score.{Score}
use Rattle.path_rules.specs.Paths.{last_candidate, piece_count}
use Rattle.path_by_length.specs.Solved.{TableRoom, cuts_in}
use Rattle.path_rules.specs.declared.solved.Solved.{Solved}
use Rattle.path_by_count_rows.specs.Rows.{behind}
use Rattle.path_by_count.specs.Counted as counted
use Rattle.path_tests.specs.RefusalLaws.{AcceptedLists}
use Rattle.path_list.specs.declared.search.Error.TheVariants.{ShortParent, ShortPath}
use Rattle.path_list.specs.Operation.{outcome_of, handed_out_of, handed_by_length, handed_by_count, sought_of}
use Rattle.path_list.specs.Search.{Workable}

-- ---- a part of a list in its middle is what was put there

part_put : {A : Type 0} (l r : List A) (a w : ℕ) → length r ≡ w → a + w ≤ length l → take w (drop a (put_mid a w l r)) ≡ r
part_put l r a w e h =
    rw (drop_at (take a l) (r ++ drop w (drop a l)) a (length-take-le a l (omega arith)), take_at r (drop w (drop a l)) w e)

put_length : {A : Type 0} (l r : List A) (a w : ℕ) → length r ≡ w → a + w ≤ length l → length (put_mid a w l r) ≡ length l
put_length l r a w e h = simp (length-append, length-take, length-drop) (omega arith)

module _ {l : Lengths} {left right : List ℕ} {cost : List Float} {mode : Mode} {work32 : List ℕ} {workf : List Float} (x : Workable l left right cost mode work32 workf) where
  priced : length cost ≡ length left
  priced = x.domain.costs.each

  -- by length: the cuts' costs stand behind the table
  module _ {from to : ℕ} (at_from : from ≡ behind_table (length left)) (at-to : to ≡ end_by_length (length left)) where
    length_wide : to - from ≡ length left
    length_wide = omega (arith, at_from, at-to)

    -- the part that the search reads is the lent list
    pub length-cuts : cuts_in (length left) (put_mid from (to - from) workf cost) ≡ cost
    length-cuts = rw (length_wide, at_from) (part_put workf cost (behind_table (length left)) (length left) priced (omega (arith, x.enoughf)))

    -- so the search by length may be asked
    pub length-room : TableRoom l left right work32 (put_mid from (to - from) workf cost)
    length-room =
        let e : length (put_mid from (to - from) workf cost) ≡ length workf =
        rw (length_wide, at_from) (put_length workf cost (behind_table (length left)) (length left) priced (omega (arith, x.enoughf))) in
        record { domain = rw length-cuts x.domain; overs = omega (arith, x.enough32); costs = omega (arith, x.enoughf, e) }

  -- by count: behind the tree
  module _ {from to : ℕ} (at_from : from ≡ behind_tree (length left)) (at-to : to ≡ end_by_count (length left)) where
    count_wide : to - from ≡ length left
    count_wide = omega (arith, at_from, at-to)

    -- the part that the search reads is the lent list
    pub count_cuts : behind (length left) (put_mid from (to - from) workf cost) ≡ cost
    unfolding behind
    count_cuts = rw (count_wide, at_from) (part_put workf cost (behind_tree (length left)) (length left) priced (omega (arith, x.enoughf)))

    -- so the search by count may be asked
    pub count_room : counted.TreeRoom l left right work32 (put_mid from (to - from) workf cost)
    count_room =
        let e : length (put_mid from (to - from) workf cost) ≡ length workf =
        rw (count_wide, at_from) (put_length workf cost (behind_tree (length left)) (length left) priced (omega (arith, x.enoughf))) in
        record { domain = rw count_cuts x.domain; overs = omega (arith, x.enough32); costs = omega (arith, x.enoughf, e) }

  -- the size of the parent list that is asked can be worked out
  pub size_fits : (pieces : ℕ) → pieces ≤ last_candidate left → pieces * length left ≤ max_candidates * max_candidates
  size_fits pieces h =
      let few : length left ≤ max_candidates = x.domain.candidates.few in
      let a : pieces ≤ max_candidates = omega arith in
      mul-le-mul a few

-- what the tests leave is what the search asks
pub workable : {l : Lengths} {left right : List ℕ} {cost : List Float} {mode : Mode} {work32 : List ℕ} {n64 : ℕ} {workf : List Float}
    → AcceptedLists left right cost l mode (length work32) n64 (length workf) → Workable l left right cost mode work32 workf
workable r = record { domain = r.domain; counted = λ count e. (r.counted count e).0; enough32 = r.work.enough32; enoughf = r.work.enoughf }

-- ---- the search's ends

-- no room for the path
pub handed-short : (way : List ℕ) (score : Score) (path : List ℕ) → length path < length way → outcome_of (Err ShortPath) path ≡ handed_out_of way score path
unfolding handed_out_of
handed-short way score path h = rw (lt-leb (length way) (length path) h)

-- the path is handed out
pub handed-found : (way : List ℕ) (score : Score) (path path' : List ℕ) (s : Solved) → length way ≤ length path → s.score ≡ score → s.len ≡ length way
    → path' ≡ onto way path → outcome_of (Ok s) path' ≡ handed_out_of way score path
unfolding handed_out_of
handed-found way score path path' s h e f g = rw (le-leb (length way) (length path) h, ← e, ← f, g)

module _ (l : Lengths) (left right : List ℕ) (cost : List Float) where
  -- by length there is no more to test
  pub sought-length : (parents : ℕ) (path : List ℕ)
      → handed_by_length l left right cost path ≡ sought_of l left right cost ByLength parents path
  unfolding sought_of
  sought-length parents path = refl

  -- 14
  pub sought-short : (count parents : ℕ) (path : List ℕ) → parents < piece_count left count * length left
      → outcome_of (Err ShortParent) path ≡ sought_of l left right cost (ByCount count) parents path
  unfolding sought_of
  sought-short count parents path h = rw (lt-leb (piece_count left count * length left) parents h)

  -- and where the parent list is long enough, by count
  pub sought_count : (count parents : ℕ) (path : List ℕ) → piece_count left count * length left ≤ parents
      → handed_by_count l left right cost count path ≡ sought_of l left right cost (ByCount count) parents path
  unfolding sought_of
  sought_count count parents path h = rw (le-leb (piece_count left count * length left) parents h)
