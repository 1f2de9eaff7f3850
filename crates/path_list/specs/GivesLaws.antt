-- When a call gives a path: where no test refuses it, exactly where the parent list and the output are long enough. So 12 does not come where the output has an entry for
-- each candidate.
use Rattle.std.proofs.Math.Path.{◌≡◌, refl}
use Rattle.std.proofs.Common.{ap, le_of_eq, leb-true, le-leb}
use Rattle.std.specs.Prelude.{◌↔◌, Bool, true, false, cond, List, Result, Ok, Err, ℕ, ◌*◌, ◌≤◌, leb, Float}
use native.Mathlib.Omega.{arith}
use Rattle.std.proofs.Math.Nat.{le_trans}
use Rattle.std.proofs.Math.ListN.{length}
use Rattle.base_terms.specs.Lists.{onto}
use Rattle.base_terms.specs.Work.{Work}
use Rattle.path_pieces.specs.Domain.{Searchable}
use Rattle.path_pieces.specs.declared.lengths.Lengths.{Lengths}
use Rattle.path_pieces.specs.declared.mode.Mode.{Mode}
use Rattle.path_pieces.specs.declared.mode.Mode.TheVariants.{ByLength, ByCount}
use Rattle.path_pieces.specs.declared.score.Score.{Score}
use Rattle.path_rules.specs.Paths.{Allowed, AllowedByCount, last_candidate, piece_count}
use Rattle.path_rules.specs.PathsLaws.{candidates_few}
use Rattle.path_rules.specs.BestPath.{BestPathByLength}
use Rattle.path_rules.specs.declared.solved.Solved.{Solved}
use Rattle.path_by_length.specs.Table.{best_score, best_path}
use Rattle.path_by_length.proofs.Theorems.{best_path-all}
use Rattle.path_by_count.specs.Table.{best_path_by_count, best_score_by_count}
use Rattle.path_by_count.specs.Theorems.{count_all}
use Rattle.path_tests.specs.Refusal.{first_refusal_of}
use Rattle.path_tests.specs.RefusalLaws.{AcceptedLists, accepted_lists, fine_limit}
use Rattle.path_tests.specs.declared.refusal.Refusal.{Refusal}
use Rattle.path_list.specs.declared.search.Error.TheVariants.{ShortParent, ShortPath}
use Rattle.path_list.specs.Operation.{outcome_of, handed_out_of, handed_by_count, sought_of, end_after, path_of}
use Rattle.path_list.specs.Gives.{Gives, Enough}
use Rattle.path_list.specs.Theorems.{searched}

-- ---- a path that is handed out

-- it is exactly where it fits
handed_gives : (way : List ℕ) (score : Score) (path : List ℕ) → Gives (handed_out_of way score path).answer ↔ (length way ≤ length path)
unfolding handed_out_of
handed_gives way score path = (
  λ g. go (leb (length way) (length path)) (leb-true (length way) (length path)) g.0 g.1,
  λ h. (record { score = score; len = length way }, rw (le-leb (length way) (length path) h)),
)
  where
    go : (b : Bool) → (b ≡ true → length way ≤ length path) → (s : Solved)
        → (cond b (outcome_of (Ok (record { score = score; len = length way })) (onto way path)) (outcome_of (Err ShortPath) path)).answer ≡ Ok s
        → length way ≤ length path
    go true h s q = h refl
    go false h s q = let z : ◌≡◌ {A = ℕ} 0 1 = cc in absurd (omega arith)

-- by count 14 comes first
sought_gives : (l : Lengths) (left right : List ℕ) (cost : List Float) (count parents : ℕ) (path : List ℕ)
    → Gives (sought_of l left right cost (ByCount count) parents path).answer
    ↔ ((piece_count left count * length left ≤ parents) × (length (best_path_by_count l left right cost count) ≤ length path))
unfolding sought_of
sought_gives l left right cost count parents path = (
  λ g. go (leb (piece_count left count * length left) parents) (leb-true (piece_count left count * length left) parents) g.0 g.1,
  λ h. rw (le-leb (piece_count left count * length left) parents h.0)
      ((handed_gives (best_path_by_count l left right cost count) (best_score_by_count l left right cost count) path).1 h.1),
)
  where
    go : (b : Bool) → (b ≡ true → piece_count left count * length left ≤ parents) → (s : Solved)
        → (cond b (handed_by_count l left right cost count path) (outcome_of (Err ShortParent) path)).answer ≡ Ok s
        → (piece_count left count * length left ≤ parents) × (length (best_path_by_count l left right cost count) ≤ length path)
    go true h s q = (h refl, (handed_gives (best_path_by_count l left right cost count) (best_score_by_count l left right cost count) path).0 (s, q))
    go false h s q = let z : ◌≡◌ {A = ℕ} 0 1 = cc in absurd (omega arith)

-- ---- one call

-- the best path by length is one
best-length : {l : Lengths} {left right : List ℕ} {cost : List Float} → Searchable l left right cost → (best : List ℕ) → BestPathByLength l left right cost best
    → best ≡ best_path l left right cost
best-length ok best b = let (own, o) = b.scored in (best_path-all ok).only o best (b.tie o)

module _ (l : Lengths) (left right : List ℕ) (cost : List Float) (path : List ℕ) (work : Work) (parent : List ℕ) where
  -- a call that gives a path had enough
  pub gives_enough : (mode : Mode) → Gives (path_of l left right cost mode path work parent).answer → Enough l left right cost mode path work parent
  unfolding sought_of
  gives_enough ByLength (s, e) =
      let x = searched l left right cost path work parent s ByLength e in
      let fits = (handed_gives (best_path l left right cost) (best_score l left right cost (last_candidate left)) path).0 (s, x.answer) in
      record {
        limit = fine_limit left right cost l ByLength (length work.u32s) (length work.u64s) (length work.f64s) x.fine;
        u32s = x.accepted.work.enough32;
        u64s = x.accepted.work.enough64;
        f64s = x.accepted.work.enoughf;
        parents = λ count m. let z : ◌≡◌ {A = ℕ} 0 1 = cc in absurd (omega arith);
        room = λ m best b. le_trans (le_of_eq (ap length (best-length x.accepted.domain best b))) fits;
        room_by_count = λ count m. let z : ◌≡◌ {A = ℕ} 0 1 = cc in absurd (omega arith);
      }
  gives_enough (ByCount count) (s, e) =
      let x = searched l left right cost path work parent s (ByCount count) e in
      let p = (sought_gives l left right cost count (length parent) path).0 (s, x.answer) in
      let pieces = (count_all x.accepted.domain count (x.accepted.counted count refl).0).allowed.1 in
      record {
        limit = fine_limit left right cost l (ByCount count) (length work.u32s) (length work.u64s) (length work.f64s) x.fine;
        u32s = x.accepted.work.enough32;
        u64s = x.accepted.work.enough64;
        f64s = x.accepted.work.enoughf;
        parents = λ n m. let q : n ≡ count = cc in rw q p.0;
        room = λ m best b. let z : ◌≡◌ {A = ℕ} 0 1 = cc in absurd (omega arith);
        room_by_count = λ n m. let q : n ≡ count = cc in rw q (omega (arith, pieces, p.1));
      }

  -- and where no test refuses it and it has enough, it gives one
  pub enough_gives : (mode : Mode) → first_refusal_of left right cost l mode (length work.u32s) (length work.u64s) (length work.f64s) ≡ Ok tt
      → Enough l left right cost mode path work parent → Gives (path_of l left right cost mode path work parent).answer
  unfolding path_of sought_of
  enough_gives ByLength f enough =
      let ok = (accepted_lists left right cost l ByLength (length work.u32s) (length work.u64s) (length work.f64s) f).domain in
      rw f
      ((handed_gives (best_path l left right cost) (best_score l left right cost (last_candidate left)) path).1
      (enough.room refl (best_path l left right cost) (best_path-all ok)))
  enough_gives (ByCount count) f enough =
      let a = accepted_lists left right cost l (ByCount count) (length work.u32s) (length work.u64s) (length work.f64s) f in
      let pieces = (count_all a.domain count (a.counted count refl).0).allowed.1 in
      rw f
      ((sought_gives l left right cost count (length parent) path).1
      (enough.parents count refl, omega (arith, pieces, enough.room_by_count count refl)))

-- ---- an output with an entry for each candidate

module _ (l : Lengths) (left right : List ℕ) (cost : List Float) (path : List ℕ) (whole : length left ≤ length path) where
  -- a path that fits is not 12
  fits_not_short : (way : List ℕ) (score : Score) → length way ≤ length left → (handed_out_of way score path).answer ≡ Err ShortPath → ⊥
  fits_not_short way score few e =
      let (s, f) = (handed_gives way score path).1 (le_trans few whole) in
      let z : ◌≡◌ {A = ℕ} 0 1 = cc in
      omega arith

  sought_not_short : (mode : Mode) (n32 n64 nf parents : ℕ) → AcceptedLists left right cost l mode n32 n64 nf
      → (sought_of l left right cost mode parents path).answer ≡ Err ShortPath → ⊥
  unfolding sought_of
  sought_not_short ByLength n32 n64 nf parents ok e =
      fits_not_short (best_path l left right cost) (best_score l left right cost (last_candidate left))
      (candidates_few (Allowed l.limit left right) (λ i j a. a.0) left (best_path l left right cost) ok.domain.candidates.some
      (best_path-all ok.domain).allowed) e
  sought_not_short (ByCount count) n32 n64 nf parents ok e = go (leb (piece_count left count * length left) parents) e
    where
      few : length (best_path_by_count l left right cost count) ≤ length left
      few =
          candidates_few (AllowedByCount l.limit left right) (λ i j a. a.0) left (best_path_by_count l left right cost count) ok.domain.candidates.some
          (count_all ok.domain count (ok.counted count refl).0).allowed.0

      go : (b : Bool) → (cond b (handed_by_count l left right cost count path) (outcome_of (Err ShortParent) path)).answer ≡ Err ShortPath → ⊥
      go true q = fits_not_short (best_path_by_count l left right cost count) (best_score_by_count l left right cost count) few q
      go false q = let z : ◌≡◌ {A = ℕ} 0 1 = cc in omega arith

  -- 12 does not come
  pub never_short : (mode : Mode) (work : Work) (parent : List ℕ) → (path_of l left right cost mode path work parent).answer ≡ Err ShortPath → ⊥
  unfolding path_of
  never_short mode work parent e =
      go (first_refusal_of left right cost l mode (length work.u32s) (length work.u64s) (length work.f64s))
      (accepted_lists left right cost l mode (length work.u32s) (length work.u64s) (length work.f64s)) e
    where
      go : (v : Result Unit Refusal) → (v ≡ Ok tt → AcceptedLists left right cost l mode (length work.u32s) (length work.u64s) (length work.f64s))
          → (end_after v (sought_of l left right cost mode (length parent) path) path work parent).answer ≡ Err ShortPath → ⊥
      go (Ok tt) ok q = sought_not_short mode (length work.u32s) (length work.u64s) (length work.f64s) (length parent) (ok refl) q
      go (Err r) ok q = let z : ◌≡◌ {A = ℕ} 0 1 = cc in omega arith
