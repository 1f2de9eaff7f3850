-- What is claimed of every call of the operation Plan (`Ended`) and of every plan that it makes (`Made`). Theorems proves it, with no hypothesis but the answer and,
-- for a span that is not empty, what the types of the lists say (`Fitting`).
-- The output has three numbers for each piece, start, end and flags, and three for each cut, previous end, next start and reason; all ends are in samples.
use Rattle.std.specs.Prelude.{◌≡◌, ◌⊎◌, ◌↔◌, true, false, ℕ, zero, suc, ◌+◌, ◌-◌, ◌*◌, ◌≤◌, ◌<◌, min, Float, length, get_or, take, Ok, Err, Result}
use mathlib.Core.List.{List, Memᴰ}
use Rattle.base_terms.specs.Lists.{filled, onto}
use Rattle.base_terms.specs.Work.{Work, cleared}
use Rattle.grid.specs.Boundary.{boundary_of}
use Rattle.grid.specs.Validate.{grid_of}
use Rattle.grid.specs.declared.boundary.FrameGrid.{FrameGrid}
use Rattle.grid.specs.declared.validate.Recording.{Recording}
use Rattle.silence_list.specs.declared.config.SegmentConfig.{SegmentConfig}
use Rattle.path_pieces.specs.declared.mode.Mode.TheVariants.{ByLength, ByCount}
use Rattle.path_rules.specs.Paths.{over_count}
use Rattle.path_rules.specs.BestPath.{BestPathByLength, BestPathByCount}
use Rattle.plan_settings.specs.declared.config.PlanConfig.{PlanConfig}
use Rattle.candidate_span.specs.Gaps.{Cut}
use Rattle.candidate_span.specs.Span.{Span, span_of}
use Rattle.silence_list.specs.Silences.{silences_in}
use Rattle.division.specs.Pieces.{piece_from, pieces_of, length_of, IsSingle}
use Rattle.division.specs.Places.{cut_at}
use Rattle.division.specs.Greedy.{Greedy}
use Rattle.division.specs.Reach.{IsReach, HasReach}
use Rattle.division.specs.Demand.{DemandByCount, DemandByLength}
use Rattle.candidates.specs.Entries.{costs_of}
use Rattle.candidates.specs.Samples.{lefts_of, rights_of}
use Rattle.candidates.specs.declared.candidate.Candidate.{Candidate}
use Rattle.plan_tests.specs.Fitting.{Fitting}
use Rattle.plan_tests.specs.Refusal as tests
use Rattle.plan_tests.specs.declared.refusal.Refusal.{Refusal}
use Rattle.candidate_finder.specs.CandidatesIn.{candidates_in}
use Rattle.candidate_finder.specs.SpanIn.{empty_in, padding_in}
use Rattle.plan_division.specs.Along.{ends_at, piece_between}
use Rattle.plan_division.specs.Added.{added_by_count, added_by_length}
use Rattle.plan_lengths.specs.PlanLengths.{minimum_in, maximum_in, lengths_by_length, lengths_by_count}
use Rattle.plan_pieces.specs.Flags.{has_long, has_short, is_longer, is_tail, IsShort}
use Rattle.plan_pieces.specs.PlanAlong.{plan_pieces, plan_cuts}
use Rattle.plan_pieces.specs.Output.{Output}
use Rattle.plan_pieces.specs.Answer.{number_of}
use Rattle.plan_pieces.specs.declared.answer.Error.TheVariants.{Refused, ShortParent, ShortOutput}
use Rattle.planner.specs.Operation.{End, end_of, candidates_with, plan_of}

-- ---- the output by its numbers

-- piece i: its start
abbrev pub piece_start : Output → ℕ → ℕ
piece_start out i = get_or out.pieces (3 * i) 0

-- its end
abbrev pub piece_end : Output → ℕ → ℕ
piece_end out i = get_or out.pieces (3 * i + 1) 0

-- its flags: 0 none, 1 short, 2 long
abbrev pub flags_at : Output → ℕ → ℕ
flags_at out i = get_or out.pieces (3 * i + 2) 0

-- document 01: "A piece's length is its end less its start"
abbrev pub length_at : Output → ℕ → ℕ
length_at out i = piece_end out i - piece_start out i

-- cut i, between piece i and the next: where piece i ends
abbrev pub previous_end_of : Output → ℕ → ℕ
previous_end_of out i = get_or out.cuts (3 * i) 0

-- where the next piece starts
abbrev pub next_start_of : Output → ℕ → ℕ
next_start_of out i = get_or out.cuts (3 * i + 1) 0

-- its reason: 0 silence, 1 quiet, 2 forced
abbrev pub reason_at : Output → ℕ → ℕ
reason_at out i = get_or out.cuts (3 * i + 2) 0

-- f 0 + f 1 + .., n of them
abbrev pub sum_up_to : (ℕ → ℕ) → ℕ → ℕ
sum_up_to f zero = 0
sum_up_to f (suc n) = f 0 + sum_up_to (λ (i : ℕ). f (suc i)) n

-- the output has room for k pieces and the cuts between them
abbrev pub HasRoom : ℕ → Output → Type 0
HasRoom k out = (3 * k ≤ length out.pieces) × (3 * (k - 1) ≤ length out.cuts)

-- k pieces, and the cuts between them, stand at the front of the output, and nothing beyond them has changed
pub record PlanWritten (k : ℕ) (before after : Output) : Type 0 where
  pub fits : HasRoom k before
  pub pieces : after.pieces ≡ onto (take (3 * k) after.pieces) before.pieces
  pub cuts : after.cuts ≡ onto (take (3 * (k - 1)) after.cuts) before.cuts

-- ---- pieces and cuts

-- k pieces from sample `from` to sample `to`, and the cuts between them
pub record Fills (from to k : ℕ) (out : Output) : Type 0 where
  pub some : 0 < k
  pub starts : piece_start out 0 ≡ from
  pub stops : piece_end out (k - 1) ≡ to
  -- in order: each start is below its end, each end at or before the next start
  pub rises : (i : ℕ) → i < k → piece_start out i < piece_end out i
  pub order : (i : ℕ) → suc i < k → piece_end out i ≤ piece_start out (suc i)
  -- a cut goes from the end of one piece to the start of the next
  pub cuts : (i : ℕ) → suc i < k → (previous_end_of out i ≡ piece_end out i) × (next_start_of out i ≡ piece_start out (suc i))
  -- document 01: "Pieces plus what lies between them add up to the span."
  pub adds : sum_up_to (length_at out) k + sum_up_to (λ (i : ℕ). next_start_of out i - previous_end_of out i) (k - 1) ≡ to - from

-- each flag stands exactly where it should: "The over-long flag is always set against the maximum, never the reach."
-- Short is what is below the minimum and not the last of several pieces
pub record Flagged (minimum : Float) (maximum k : ℕ) (out : Output) : Type 0 where
  pub long : (i : ℕ) → i < k → has_long (flags_at out i) ≡ is_longer maximum (length_at out i)
  pub short : (i : ℕ) → i < k → has_short (flags_at out i) ≡ IsShort (is_tail k i) minimum (length_at out i)
  -- there are no other flags, and no piece has both: its number is 0, 1 for short or 2 for long
  pub one : (i : ℕ) → i < k → flags_at out i ≤ 2

-- the pieces and cuts are those of a division of the span, in samples
pub record Shows (g : FrameGrid) (s : Span) (cuts : List Cut) (k : ℕ) (out : Output) : Type 0 where
  pub number : length (pieces_of s cuts) ≡ k
  pub piece_start_lem : (i : ℕ) → i < k → piece_start out i ≡ boundary_of g (get_or (pieces_of s cuts) i (piece_from 0 0)).start
  pub piece_end_lem : (i : ℕ) → i < k → piece_end out i ≡ boundary_of g (get_or (pieces_of s cuts) i (piece_from 0 0)).end
  pub cut_start : (i : ℕ) → suc i < k → previous_end_of out i ≡ boundary_of g (get_or cuts i (cut_at 0)).left
  pub cut_end : (i : ℕ) → suc i < k → next_start_of out i ≡ boundary_of g (get_or cuts i (cut_at 0)).right

-- they are the plan of a path over candidates
pub record Follows (g : FrameGrid) (settings : PlanConfig) (cs : List Candidate) (path : List ℕ) (k : ℕ) (out : Output) : Type 0 where
  pub number : length path ≡ suc k
  pub pieces : take (3 * k) out.pieces ≡ plan_pieces g settings cs path
  pub cuts : take (3 * (k - 1)) out.cuts ≡ plan_cuts g cs path

-- where a plan's candidates lie, those that were found and those added later
pub record InSpan (s : Span) (cs : List Candidate) : Type 0 where
  -- "none outside the span", each with its left end at or before its right end
  pub within : (i : ℕ) → i < length cs → (s.first ≤ (ends_at cs i).left) × ((ends_at cs i).left ≤ (ends_at cs i).right) × ((ends_at cs i).right ≤ s.last)
  -- in order, and apart
  pub order : (i j : ℕ) → i < j → j < length cs → (ends_at cs i).right < (ends_at cs j).left
  -- "A dropped gap is a candidate whose left end is below its right end": those candidates and no others
  pub gap_dropped : (i : ℕ) → i < length cs → (ends_at cs i).left < (ends_at cs i).right → Memᴰ (ends_at cs i) s.gaps
  pub gap_found : (k : Cut) → Memᴰ k s.gaps → (i : ℕ) × (i < length cs) × (ends_at cs i ≡ k)
  -- "no other candidate, found or added later, lies in a dropped gap, edges included"
  pub alone : (k : Cut) → Memᴰ k s.gaps → (i : ℕ) → i < length cs
      → (ends_at cs i ≡ k) ⊎ (((ends_at cs i).right < k.left) ⊎ (k.right < (ends_at cs i).left))

module _ (r : Recording) (segment : SegmentConfig) (settings : PlanConfig) (values : List Float) (flags : List ℕ) (levels : List Float) where
  -- frame grid and span; minimum and maximum in samples
  abbrev g : FrameGrid
  g = grid_of r (length values)

  abbrev s : Span
  s = span_of settings.gap (padding_in r segment settings (length values)) (silences_in r segment values flags)

  abbrev minimum : Float
  minimum = minimum_in g settings

  abbrev maximum : ℕ
  maximum = maximum_in g settings

  -- document 01's candidates before completion, and with points added at the boundaries of some cuts
  abbrev found : List Candidate
  found = candidates_in r segment settings values flags levels

  abbrev completed : List Cut → List Candidate
  completed added = candidates_with r segment settings values flags levels added

  -- document 02's S-8: for so many pieces there is a reach, at most the longer of the span and the maximum
  abbrev pub ReachExists : ℕ → Type 0
  ReachExists count = HasReach g s count maximum

  -- ---- demand 2: the plan is that of document 01's best path

  -- the best path by length: its limit is the maximum
  abbrev pub BestOverByLength : List Candidate → List ℕ → Type 0
  BestOverByLength cs path = BestPathByLength (lengths_by_length g settings) (lefts_of g cs) (rights_of g cs) (costs_of cs) path

  -- the best path by count under a limit, of min(N, last index) pieces
  abbrev pub BestOverByCount : ℕ → ℕ → List Candidate → List ℕ → Type 0
  BestOverByCount count limit cs path =
      BestPathByCount (lengths_by_count g settings s.first s.last count limit) (lefts_of g cs) (rights_of g cs) (costs_of cs) count path

  -- by length: over the candidates with points added until neighbours are within the maximum or one frame apart
  abbrev bridged : List Candidate
  bridged = completed (added_by_length g maximum found)

  -- the plan goes along the best path over them
  pub record PlanByLength (k : ℕ) (out : Output) : Type 0 where
    pub candidates : InSpan s bridged
    pub neighbours : (i : ℕ) → suc i < length bridged → (length_of g (piece_between bridged i (suc i)) ≤ maximum) ⊎ IsSingle (piece_between bridged i (suc i))
    pub path : List ℕ
    pub best : BestOverByLength bridged path
    pub follows : Follows g settings bridged path k out

  -- a path has N pieces, and none over the maximum
  abbrev pub Suffices : ℕ → List Candidate → List ℕ → Type 0
  Suffices count cs path = (length path ≡ suc count) × (over_count maximum (lefts_of g cs) (rights_of g cs) path ≡ 0)

  -- by count, where the first path suffices: its limit is the maximum
  pub record PlanAtFirst (count k : ℕ) (out : Output) : Type 0 where
    pub candidates : InSpan s found
    pub path : List ℕ
    pub best : BestOverByCount count maximum found path
    pub suffices : Suffices count found path
    pub follows : Follows g settings found path k out

  -- it does not: the best path over the first candidates has fewer than N pieces, or one over the maximum
  pub record FallsShort (count : ℕ) : Type 0 where
    pub first_path_lem : List ℕ
    pub first_best : BestOverByCount count maximum found first_path_lem
    pub not_enough : Suffices count found first_path_lem → ⊥

  -- by count, then: the limit is the reach, and the cuts of the division that goes as far as it can and of equal shares are added
  pub record PlanWithReach (count k : ℕ) (out : Output) : Type 0 where
    pub falls_short : FallsShort count
    pub limit : ℕ
    pub reach : IsReach g s count maximum limit
    pub far : List Cut
    pub greedy : Greedy g s limit far
    pub candidates : InSpan s (completed (added_by_count s count far))
    pub path : List ℕ
    pub best : BestOverByCount count limit (completed (added_by_count s count far)) path
    pub follows : Follows g settings (completed (added_by_count s count far)) path k out

  -- ---- every plan

  -- of a span that is not empty
  pub record MadeOfSpan (k : ℕ) (out : Output) : Type 0 where
    -- demand 2
    pub best_by_length : settings.mode ≡ ByLength → PlanByLength k out
    pub best_by_count : (count : ℕ) → settings.mode ≡ ByCount count → PlanAtFirst count k out ⊎ PlanWithReach count k out
    -- demand 3, of the division whose pieces and cuts are handed out. By length every piece over the maximum is a single frame;
    -- by count they are exactly N, or one for each kept frame if those are fewer, and if one exceeds the maximum, no division into at most that many has a shorter longest piece
    pub demand_by_length : settings.mode ≡ ByLength → (cuts : List Cut) × Shows g s cuts k out × DemandByLength g s maximum cuts
    pub demand_by_count : (count : ℕ) → settings.mode ≡ ByCount count → (cuts : List Cut) × Shows g s cuts k out × DemandByCount g s count maximum cuts
    -- pieces, cuts and flags; no more pieces than frames
    pub few : k ≤ length values
    pub fills : Fills (boundary_of g s.first) (boundary_of g s.last) k out
    pub flagged : Flagged minimum maximum k out
    -- silence, quiet or forced: there are no other reasons
    pub reasoned : (i : ℕ) → suc i < k → reason_at out i ≤ 2

  -- a plan of k pieces was made: `before` is what the output held, `after` what it holds
  pub record Made (k : ℕ) (before after : Output) : Type 0 where
    pub written : PlanWritten k before after
    -- document 01: "the span is empty, and so is the plan"
    pub empty : empty_in r segment settings values flags ≡ true → (k ≡ 0) × (after ≡ before)
    pub full : empty_in r segment settings values flags ≡ false → Fitting values levels → MadeOfSpan k after

  -- ---- the later refusals

  -- the candidates over which a path by count is sought: the first ones; or, where the first path falls short, the completed ones under the reach.
  -- That it falls short is said of its best path, so it asks for `Fitting`
  pub data SoughtOver (count : ℕ) : List Candidate → Type 0 where
    at_first : SoughtOver count found
    with_reach : (Fitting values levels → FallsShort count) → (limit : ℕ) (far : List Cut) → IsReach g s count maximum limit → Greedy g s limit far
        → SoughtOver count (completed (added_by_count s count far))

  -- 14: "parent list under pieces × candidates of the path being sought by count"
  pub record FewParents (parents : ℕ) : Type 0 where
    pub count : ℕ
    pub asked : settings.mode ≡ ByCount count
    pub candidates : List Candidate
    pub sought : SoughtOver count candidates
    pub few : parents < min count (length candidates - 1) * length candidates

  -- ---- every end

  module _ (out : Output) (work : Work) (parent : List ℕ) where
    abbrev end : End
    end = plan_of r segment settings values flags levels out work parent

    -- the first test before 14 that fails
    abbrev verdict : Result Unit Refusal
    verdict = tests.first_refusal_of r segment settings values flags levels (length work.u32s) (length work.u64s) (length work.f64s)

    -- what is claimed of every call
    pub record Ended : Type 0 where
      -- "Refusals before 14 .. leave work memory untouched", and each is that of the first test that fails
      pub refused : (x : Refusal) → verdict ≡ Err x → end ≡ end_of (Err (Refused x)) out work parent
      pub first_failed : (x : Refusal) → end.answer ≡ Err (Refused x) → verdict ≡ Err x
      -- "All later ends, success too, leave it zeroed"
      pub zeroed : verdict ≡ Ok tt → (end.work ≡ cleared work) × (end.parent ≡ filled 0 parent)
      -- where no plan is made the output is as it was
      pub untouched : ((k : ℕ) → end.answer ≡ Ok k → ⊥) → end.out ≡ out
      -- an empty span that passes the tests has the empty plan: no 14 or 12
      pub empty : verdict ≡ Ok tt → empty_in r segment settings values flags ≡ true → (end.answer ≡ Ok 0) × (end.out ≡ out)
      -- 14 and 12, each under its condition only; at 12 the call makes its plan with any output that has room for it
      pub short_parent : end.answer ≡ Err ShortParent → FewParents (length parent)
      pub short_output : end.answer ≡ Err ShortOutput
          → (k : ℕ) × (HasRoom k out → ⊥) × ((room : Output) → HasRoom k room → (plan_of r segment settings values flags levels room work parent).answer ≡ Ok k)
      -- and each where its condition holds
      pub gives_short_parent : verdict ≡ Ok tt → empty_in r segment settings values flags ≡ false → Fitting values levels → FewParents (length parent) → end.answer ≡ Err ShortParent
      pub gives_short_output : (k : ℕ) (room : Output) → (plan_of r segment settings values flags levels room work parent).answer ≡ Ok k → (HasRoom k out → ⊥)
          → end.answer ≡ Err ShortOutput
      -- 12 never comes where there is room for a piece at each frame
      pub roomy : Fitting values levels → HasRoom (length values) out → end.answer ≡ Err ShortOutput → ⊥
      -- 14 never comes where there are (frames + 1) × min(N, frames) parents
      pub parents_enough : (count : ℕ) → settings.mode ≡ ByCount count → (length values + 1) * min count (length values) ≤ length parent
          → end.answer ≡ Err ShortParent → ⊥
      -- a plan is made only where the tests pass
      pub accepted : (k : ℕ) → end.answer ≡ Ok k → verdict ≡ Ok tt
      -- the number is 0 where a plan is made, and nowhere else
      pub number : (number_of end.answer ≡ 0) ↔ ((k : ℕ) × (end.answer ≡ Ok k))
