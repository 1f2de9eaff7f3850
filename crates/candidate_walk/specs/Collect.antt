-- The walk over the boundaries that collects the candidates: what it holds at each, and what it writes there.
-- That the walk gives `candidates_of` is shown in CollectAll.
use Rattle.std.specs.Prelude.{ℕ, suc, ◌+◌, ◌-◌, ◌*◌, Bool, ◌&&◌, cond, List, [], ◌∷◌, Option, Some, None, ltb, eqb, Float}
use Rattle.base_terms.specs.Layout.{entries_at, costs_at}
use Rattle.candidate_span.specs.declared.held.HeldSpan.{HeldSpan}
use Rattle.candidate_span.specs.Kept.{boundaries, passing}
use Rattle.candidate_span.specs.Listed.{start_at, end_at}
use Rattle.candidate_points.specs.Placed.{placed}
use Rattle.candidates.specs.declared.candidate.Candidate.{Candidate}
use Rattle.candidates.specs.declared.context.Context.{Context}
use Rattle.candidates.specs.Candidates.{point_at, own_at, cheaper, all_listed, survivors, candidates_of}
use Rattle.candidates.specs.Entries.{entries_of, costs_of}
use Rattle.candidate_walk.specs.declared.collect.Walk.{Walk}
use Rattle.candidate_walk.specs.Held.{silences_held, runs_held, levels_held, marked}

-- ---- at one boundary

-- a candidate, where there is one with its left end at boundary k
unfoldable pub starting_at : ℕ → Option Candidate → Option Candidate
starting_at k None = None
starting_at k (Some c) = cond (eqb c.left k) (Some c) None

-- the next silence's own candidate, where its left end is boundary k
abbrev pub own_here : Walk → ℕ → Option Candidate
own_here w k = starting_at k w.own

-- a silence's own candidate, or the point if it is marked and cheaper
unfoldable pub with_point : Bool → Candidate → Candidate → Candidate
with_point mark own point = cond mark (cheaper own point) own

-- the point at boundary k
abbrev pub point_held : Context → ℕ → List ℕ → List Float → ℕ → Candidate
point_held x silences work workf k =
    point_at x (silences_held silences work) (runs_held x.padding.frames work) (levels_held x.padding.frames workf) k

-- the own candidate of silence i, if it is one of those before `stop`
unfoldable pub next_own : Context → ℕ → ℕ → List ℕ → List Float → ℕ → Option Candidate
next_own x silences stop work workf i =
    cond (ltb i stop) (Some (own_at x (silences_held silences work) (levels_held x.padding.frames workf) i)) None

-- what is written at a boundary, with or without a mark there: one candidate, or none
unfoldable pub here_by : Bool → Candidate → Option Candidate → List Candidate
here_by mark point None = cond mark (point ∷ []) []
here_by mark point (Some own) = with_point mark own point ∷ []

-- at boundary k
abbrev pub here_of : Context → ℕ → ℕ → Bool → Walk → List ℕ → List Float → List Candidate
here_of x silences k mark w work workf = here_by mark (point_held x silences work workf k) (own_here w k)

-- the u32 list after it: what is written at boundary k stands behind what was written before
abbrev pub entries_here : Context → ℕ → ℕ → Bool → Walk → List ℕ → List Float → List ℕ
entries_here x silences k mark w work workf =
    placed (entries_at x.padding.frames + 3 * w.written) (entries_of (here_of x silences k mark w work workf)) work

-- the f64 list after it
abbrev pub costs_here : Context → ℕ → ℕ → Bool → Walk → List ℕ → List Float → List Float
costs_here x silences k mark w work workf =
    placed (costs_at x.padding.frames + w.written) (costs_of (here_of x silences k mark w work workf)) workf

-- what the walk holds after it, where `next` is the own candidate of the silence after the next one
unfoldable pub walk_by : Bool → Walk → Option Candidate → Option Candidate → Walk
walk_by mark w next None = cond mark (record { silence = w.silence; own = w.own; written = w.written + 1 }) w
walk_by mark w next (Some own) = record { silence = w.silence + 1; own = next; written = w.written + 1 }

-- at boundary k
abbrev pub walk_of : Context → ℕ → ℕ → ℕ → Bool → Walk → List ℕ → List Float → Walk
walk_of x silences stop k mark w work workf = walk_by mark w (next_own x silences stop work workf (w.silence + 1)) (own_here w k)

-- ---- over the whole span

-- the first silence with sound on both sides: only the recording's first silence can lack sound before it
unfoldable pub inner_from : ℕ → List ℕ → ℕ
inner_from silences work = cond (ltb 0 silences && eqb (start_at work 0) 0) 1 0

-- the silence after the last such one: only the recording's last silence can lack sound after it
unfoldable pub inner_to : ℕ → ℕ → List ℕ → ℕ
inner_to n silences work = cond (ltb 0 silences && eqb (end_at work (silences - 1)) n) (silences - 1) silences

-- the marked boundaries strictly inside the span
abbrev pub marks_held : Context → HeldSpan → List ℕ → List ℕ
marks_held x span work = passing (marked x.padding.frames work) (boundaries span.first (span.last - suc span.first))

-- all that is listed, with a point at each of them
abbrev pub listed_held : Context → HeldSpan → List ℕ → List Float → List Candidate
listed_held x span work workf =
    all_listed x (silences_held span.silences work) (runs_held x.padding.frames work) (levels_held x.padding.frames workf)
    (marks_held x span work)

-- its survivors strictly inside the span
abbrev pub inside_held : Context → HeldSpan → List ℕ → List Float → List Candidate
inside_held x span work workf = survivors (listed_held x span work workf) (boundaries span.first (span.last - suc span.first))

-- all that is collected: these, and the two ends of the span
unfoldable pub collected : Context → HeldSpan → List ℕ → List Float → List Candidate
collected x span work workf =
    candidates_of x (silences_held span.silences work) (runs_held x.padding.frames work) (levels_held x.padding.frames workf)
    (marks_held x span work) span.first span.last

-- the u32 list with all of it
abbrev pub entries_all : Context → HeldSpan → List ℕ → List Float → List ℕ
entries_all x span work workf = placed (entries_at x.padding.frames) (entries_of (collected x span work workf)) work

-- the f64 list with all of it
abbrev pub costs_all : Context → HeldSpan → List ℕ → List Float → List Float
costs_all x span work workf = placed (costs_at x.padding.frames) (costs_of (collected x span work workf)) workf
