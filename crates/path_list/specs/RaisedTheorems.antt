-- Document 02's S-12 of the operation's own answers: same candidates, costs, target, minimum, weights and mode, and whatever other lists each call was lent.
--   raised         with a longer limit, where both calls give a path, the score after is at most the score before
--   gives-exactly  where one call gave a path, a call with any other limit gives one exactly where its limit and its own lists are enough
--   gives-again    so with lists no shorter exactly where the limit is at most 2 ^ 40; by length the output has an entry for each candidate
use Rattle.std.specs.Prelude.{◌≡◌, ◌↔◌, List, ℕ, ◌≤◌, Float, length, take}
use Rattle.std.proofs.Math.Bool.{true}
use Rattle.std.proofs.Common.{le_trans}
use borrow.Author.Tests.{le-leb}
use Rattle.base_terms.specs.Limits.{max_len}
use Rattle.base_terms.specs.Work.{Work, work_length, work_ok}
use Rattle.path_pieces.specs.Pieces.{with_limit}
use Rattle.path_pieces.specs.declared.lengths.Lengths.{Lengths}
use Rattle.path_pieces.specs.declared.mode.Mode.{Mode}
use Rattle.path_pieces.specs.declared.mode.Mode.TheVariants.{ByLength, ByCount}
use Rattle.path_rules.specs.Paths.{Allowed}
use Rattle.path_rules.specs.PathsLaws.{candidates_few}
use Rattle.path_rules.specs.RaisedLaws.{best_raised, best_raised_by_count}
use Rattle.path_tests.specs.RefusalLaws.{fine_any_limit}
use Rattle.path_list.specs.Answer.{Answer}
use Rattle.path_list.specs.Operation.{path_of}
use Rattle.path_list.specs.Gives.{Gives, Enough}
use Rattle.path_list.specs.GivesLaws.{gives_enough, enough_gives}
use Rattle.path_list.specs.Raised.{NoWorse, NoShorter}
use Rattle.path_list.specs.Theorems.{searched, found-by_length, found-by_count}

-- ---- no worse

module _ (l : Lengths) (low high : ℕ) (up : low ≤ high) (left right : List ℕ) (cost : List Float)
    (path path' : List ℕ) (work work' : Work) (parent parent' : List ℕ) where
  -- by length
  raised_by_length : NoWorse (path_of (with_limit l low) left right cost ByLength path work parent).answer
      (path_of (with_limit l high) left right cost ByLength path' work' parent').answer
  raised_by_length s t e f =
      let a = found-by_length (with_limit l low) left right cost path work parent s e in
      let b = found-by_length (with_limit l high) left right cost path' work' parent' t f in
      rw (← b.score, ← a.score)
      (best_raised l left right cost low high up
      (take s.len (path_of (with_limit l low) left right cost ByLength path work parent).path)
      (take t.len (path_of (with_limit l high) left right cost ByLength path' work' parent').path)
      a.best b.best)

  -- and by count
  raised_by_count : (count : ℕ)
      → NoWorse (path_of (with_limit l low) left right cost (ByCount count) path work parent).answer
      (path_of (with_limit l high) left right cost (ByCount count) path' work' parent').answer
  raised_by_count count s t e f =
      let a = found-by_count (with_limit l low) left right cost path work parent s count e in
      let b = found-by_count (with_limit l high) left right cost path' work' parent' t count f in
      rw (← b.score, ← a.score)
      (best_raised_by_count l left right cost low high up count
      (take s.len (path_of (with_limit l low) left right cost (ByCount count) path work parent).path)
      (take t.len (path_of (with_limit l high) left right cost (ByCount count) path' work' parent').path)
      a.best b.best)

  -- the score after raising the limit is at most the score before
  pub raised : (mode : Mode) → NoWorse (path_of (with_limit l low) left right cost mode path work parent).answer
      (path_of (with_limit l high) left right cost mode path' work' parent').answer
  raised ByLength = raised_by_length
  raised (ByCount count) = raised_by_count count

-- ---- when both calls give a path

module _ (l : Lengths) (one other : ℕ) (left right : List ℕ) (cost : List Float) (mode : Mode)
    (path path' : List ℕ) (work work' : Work) (parent parent' : List ℕ)
    (given : Gives (path_of (with_limit l one) left right cost mode path work parent).answer) where
  -- the second call
  abbrev second : Answer
  second = (path_of (with_limit l other) left right cost mode path' work' parent').answer

  -- exactly where its limit and its own lists are enough
  pub gives_exactly : Gives second ↔ Enough (with_limit l other) left right cost mode path' work' parent'
  unfolding work_ok
  gives_exactly = (gives_enough (with_limit l other) left right cost path' work' parent' mode, back)
    where
      back : Enough (with_limit l other) left right cost mode path' work' parent' → Gives second
      back enough =
          let x = searched (with_limit l one) left right cost path work parent given.0 mode given.1 in
          let worked : work_ok (length left) (length work'.u32s) (length work'.u64s) (length work'.f64s) ≡ true = rw (
            le-leb (work_length (length left)) (length work'.u32s) enough.u32s,
            le-leb (work_length (length left)) (length work'.u64s) enough.u64s,
            le-leb (work_length (length left)) (length work'.f64s) enough.f64s,
          ) in
          enough_gives (with_limit l other) left right cost path' work' parent' mode
          (fine_any_limit left right cost (with_limit l one) mode (length work.u32s) (length work.u64s) (length work.f64s)
          other (length work'.u32s) (length work'.u64s) (length work'.f64s) x.fine enough.limit worked)
          enough

  -- with lists no shorter than the first call's, and by length an output with an entry for each candidate: exactly where its limit is at most 2 ^ 40
  pub gives_again : NoShorter left mode path path' work work' parent parent' → Gives second ↔ (other ≤ max_len)
  gives_again same = (λ g. (gives_exactly.0 g).limit, λ h. gives_exactly.1 (again h))
    where
      had : Enough (with_limit l one) left right cost mode path work parent
      had = gives_enough (with_limit l one) left right cost path work parent mode given

      again : other ≤ max_len → Enough (with_limit l other) left right cost mode path' work' parent'
      again h = record {
        limit = h;
        u32s = le_trans had.u32s same.u32s;
        u64s = le_trans had.u64s same.u64s;
        f64s = le_trans had.f64s same.f64s;
        parents = λ count m. le_trans (had.parents count m) same.parents;
        room = λ m best b.
            let some = (searched (with_limit l one) left right cost path work parent given.0 mode given.1).accepted.domain.candidates.some in
            le_trans (candidates_few (Allowed other left right) (λ i j a. a.0) left best some b.allowed) (same.whole m);
        room_by_count = λ count m. le_trans (had.room_by_count count m) same.paths;
      }
