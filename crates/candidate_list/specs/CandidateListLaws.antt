-- One law for each end of the operation "candidate list", under what has passed before it.
use Rattle.std.specs.Prelude.{◌≡◌, refl, Bool, true, false, List, Result, Ok, Err, ℕ, ◌+◌, ◌-◌, ◌*◌, ◌/◌, ◌≤◌, ◌<◌, leb, Float, length, take, drop}
use Rattle.std.proofs.Common.{sym, ap, ◌∙◌, arith, length-take, length-drop}
use borrow.Author.Tests.{le-leb, lt-leb, leb-true, leb-false}
use Rattle.base_laws.specs.Tests.{both}
use Rattle.base_terms.specs.Layout.{entries_at, costs_at}
use Rattle.base_terms.specs.Lists.{filled, onto}
use Rattle.base_terms.specs.Work.{Work, work_of, cleared}
use Rattle.grid.specs.Limits.{max_frames}
use Rattle.grid.specs.declared.validate.Recording.{Recording}
use Rattle.silence_list.specs.declared.config.SegmentConfig.{SegmentConfig}
use Rattle.plan_settings.specs.declared.config.PlanConfig.{PlanConfig}
use Rattle.plan_tests.specs.Refusal.{first_refusal_of}
use Rattle.plan_tests.specs.declared.refusal.Refusal.{Refusal}
use Rattle.candidates.specs.Entries.{entries_of, costs_of}
use Rattle.candidates.specs.EntriesLaws.{entries_length, costs_length}
use Rattle.candidates.specs.declared.candidate.Candidate.{Candidate}
use Rattle.candidate_finder.specs.CandidatesIn.{candidates_in}
use Rattle.candidate_finder.specs.FinderLaws.{Stands}
use Rattle.candidate_list.specs.CandidateList.{Output, end_of, has_room, handed_out_of, candidate_list_of}
use Rattle.candidate_list.specs.declared.list.Error.TheVariants.{Refused, ShortOutput}

-- ---- test 12

module _ (candidates ends costs : ℕ) where
  -- there is no room where an output has fewer costs than there are candidates
  pub room_costs : costs < candidates → false ≡ has_room candidates ends costs
  unfolding has_room
  room_costs h = rw (lt-leb candidates costs h)

  third : (b : Bool) → (b ≡ true → candidates ≤ ends / 3) → (b ≡ false → ends / 3 < candidates) → b ≡ leb (3 * candidates) ends
  third true f g = sym (le-leb (3 * candidates) ends (omega (arith, f refl)))
  third false f g = sym (lt-leb (3 * candidates) ends (omega (arith, g refl)))

  -- else there is room where a third of the other output's length is the number of candidates or more
  pub room-ends : candidates ≤ costs → leb candidates (ends / 3) ≡ has_room candidates ends costs
  unfolding has_room
  room-ends h = rw (le-leb candidates costs h) (third (leb candidates (ends / 3)) (leb-true candidates (ends / 3)) (leb-false candidates (ends / 3)))

  -- where there is room, three numbers and a cost for each candidate fit
  pub room_parts : has_room candidates ends costs ≡ true → (3 * candidates ≤ ends) × (candidates ≤ costs)
  unfolding has_room
  room_parts e = let p = both (leb candidates costs) (leb (3 * candidates) ends) e in (leb-true (3 * candidates) ends p.1, leb-true candidates costs p.0)

-- ---- what stands in work memory

-- room for the entries and costs of so many candidates of so many frames
pub record Copyable (frames candidates : ℕ) (work : List ℕ) (workf : List Float) : Type 0 where
  pub fits : entries_at frames + 3 * candidates ≤ length work
  pub fitsf : costs_at frames + candidates ≤ length workf
  pub bounded : frames ≤ max_frames

-- candidates that stand there have it
pub stands_copyable : (frames candidates : ℕ) (cs : List Candidate) (work : List ℕ) (workf : List Float) → entries_at frames ≤ length work → costs_at frames ≤ length workf
    → frames ≤ max_frames → Stands frames candidates cs work workf → Copyable frames candidates work workf
stands_copyable frames candidates cs work workf h hf few s = record {
  fits = omega (arith, s.number, length-take (3 * candidates) (drop (entries_at frames) work), length-drop (entries_at frames) work, ap length s.entries, entries_length cs);
  fitsf = omega (arith, s.number, length-take candidates (drop (costs_at frames) workf), length-drop (costs_at frames) workf, ap length s.costs, costs_length cs);
  bounded = few;
}

-- ---- a part of b elements, as it is lent

module _ (a b e : ℕ) (is : e ≡ a + b) where
  width : e - a ≡ b
  width = omega arith

  -- it fits where b elements do
  pub part_room : {A : Type 0} (xs : List A) (m : ℕ) → b ≤ m → length (take (e - a) xs) ≤ m
  part_room xs m h = omega (arith, length-take (e - a) xs, width)

  -- and written in front it is b elements
  pub part_onto : {A : Type 0} (xs out out' : List A) → out' ≡ onto (take (e - a) (drop a xs)) out → out' ≡ onto (take b (drop a xs)) out
  part_onto xs out out' h = h ∙ ap (λ (w : ℕ). onto (take w (drop a xs)) out) width

-- ---- the list

module _ (candidates : ℕ) (entries : List ℕ) (costs : List Float) (out : Output) (work w : Work) (e : w ≡ cleared work) where
  -- an output that is too short: 12
  pub out-short : has_room candidates (length out.ends) (length out.costs) ≡ false → end_of (Err ShortOutput) out w ≡ handed_out_of candidates entries costs out work
  unfolding handed_out_of
  out-short h = rw (h, e)

  -- both have room
  pub out-found : (out' : Output) → has_room candidates (length out.ends) (length out.costs) ≡ true → out'.ends ≡ onto entries out.ends → out'.costs ≡ onto costs out.costs
      → end_of (Ok candidates) out' w ≡ handed_out_of candidates entries costs out work
  unfolding handed_out_of
  out-found out' h a b = rw (h, e, a, b)

-- ---- the operation

module _ (r : Recording) (segment : SegmentConfig) (settings : PlanConfig) (values : List Float) (flags : List ℕ) (levels : List Float) (out : Output) (work : Work) where
  -- the first test that fails
  abbrev verdict : Result Unit Refusal
  verdict = first_refusal_of r segment settings values flags levels (length work.u32s) (length work.u64s) (length work.f64s)

  -- a refusal before 12 leaves every list as it was
  pub ends_refused : (x : Refusal) → Err x ≡ verdict → end_of (Err (Refused x)) out work ≡ candidate_list_of r segment settings values flags levels out work
  unfolding candidate_list_of
  ends_refused x e = rw (← e)

  -- the candidates stand in work memory, whose lists are as long as before, and are handed out
  pub ends-listed : (k : ℕ) (entries : List ℕ) (costs : List Float) (w32 : List ℕ) (wf : List Float) → Ok tt ≡ verdict
      → k ≡ length (candidates_in r segment settings values flags levels) → entries ≡ entries_of (candidates_in r segment settings values flags levels)
      → costs ≡ costs_of (candidates_in r segment settings values flags levels) → length w32 ≡ length work.u32s → length wf ≡ length work.f64s
      → handed_out_of k entries costs out (work_of w32 work.u64s wf) ≡ candidate_list_of r segment settings values flags levels out work
  unfolding candidate_list_of handed_out_of filled
  ends-listed k entries costs w32 wf e n a b s sf = rw (← e, n, a, b, s, sf)
