-- Document 01's candidates: "Silence candidates, one grid point for each block [...], the two ends of the span. [...] One candidate survives for each left end: the cheapest, the earlier listed on equal cost."
-- `candidates_of` is what contracts and theorems cite. x is the context, ss the list of silences; runs has for each frame the length of its stretch below off, levels the level at each boundary.
use Rattle.std.specs.Prelude.{ℕ, zero, suc, ◌-◌, Bool, false, ◌||◌, cond, List, [], ◌∷◌, ◌++◌, map, eqb, negsuc, Float, get_or}
use Rattle.std.specs.Float.{nan, fin}
use Rattle.std.specs.Float.Ieee.{lt, le}
use Rattle.base_terms.specs.Floats.{nought}
use Rattle.candidate_span.specs.Bounds.{low_of, high_of, is_inner}
use Rattle.candidate_span.specs.Kept.{boundaries}
use Rattle.candidate_span.specs.Listed.{silence_count, start_at, end_at}
use Rattle.candidate_points.specs.Blocked.{touches}
use Rattle.candidate_costs.specs.Cost.{cut_cost}
use Rattle.candidate_costs.specs.Stretch.{stretch_at, secs_of}
use Rattle.candidate_cuts.specs.Cut.{silence_cut_at}
use Rattle.candidates.specs.declared.candidate.Reason.{Reason}
use Rattle.candidates.specs.declared.candidate.Reason.TheVariants.{Silence, Quiet, Forced}
use Rattle.candidates.specs.declared.candidate.Candidate.{Candidate}
use Rattle.candidates.specs.declared.context.Context.{Context}

-- ---- one candidate

-- the reasons as numbers
abbrev pub reason_number : Reason → ℕ
reason_number Silence = 0
reason_number Quiet = 1
reason_number Forced = 2

-- an end of the span
abbrev pub node : ℕ → Candidate
node k = record { left = k; right = k; cost = nought; reason = Forced }

-- the Rust's QUIET_LEVEL, 0.25
abbrev pub quiet_level : Float
quiet_level = fin false 1 (negsuc 1)

-- boundary k lies within the padded bounds of one of the first i silences
unfoldable pub pauses_by : Context → List ℕ → ℕ → ℕ → Bool
pauses_by x ss zero k = false
pauses_by x ss (suc i) k = pauses_by x ss i k || touches (low_of x.padding (start_at ss i)) (high_of x.padding (end_at ss i)) k

-- of one of all silences
unfoldable pub in_pause : Context → List ℕ → ℕ → Bool
in_pause x ss k = pauses_by x ss (silence_count ss) k

-- why a point at boundary k is cut there: it lies in silence beyond the padding; its level is in the quietest quarter of the scale; or neither, which is forced
unfoldable pub point_reason : Context → List ℕ → List Float → ℕ → Reason
point_reason x ss levels k = cond (in_pause x ss k) Silence (cond (le (get_or levels k nan) quiet_level) Quiet Forced)

-- the point at boundary k, any boundary: what a block gives at its quietest, and what completion adds
unfoldable pub point_at : Context → List ℕ → List ℕ → List Float → ℕ → Candidate
point_at x ss runs levels k = record {
  left = k;
  right = k;
  cost = cut_cost x.weights (get_or levels k nan) (secs_of x.frame_secs (stretch_at runs k));
  reason = point_reason x ss levels k;
}

-- the own candidate of silence i
unfoldable pub own_at : Context → List ℕ → List Float → ℕ → Candidate
own_at x ss levels i =
    let c = silence_cut_at x.gap x.placement x.padding levels ss i in
    record { left = c.left; right = c.right; cost = cut_cost x.weights c.level (secs_of x.frame_secs (end_at ss i - start_at ss i)); reason = Silence }

-- ---- the list of all

-- the own candidates of n silences from silence i on: each with sound on both sides has one
unfoldable pub own_from : Context → List ℕ → List Float → ℕ → ℕ → List Candidate
own_from x ss levels zero i = []
own_from x ss levels (suc n) i =
    cond (is_inner x.padding.frames (start_at ss i) (end_at ss i))
    (own_at x ss levels i ∷ own_from x ss levels n (suc i))
    (own_from x ss levels n (suc i))

-- the candidates in the order in which they are listed: the silences', then the points at boundaries ks
unfoldable pub all_listed : Context → List ℕ → List ℕ → List Float → List ℕ → List Candidate
all_listed x ss runs levels ks = own_from x ss levels (silence_count ss) 0 ++ map (point_at x ss runs levels) ks

-- ---- the survivors

-- those with left end k, in their order
unfoldable pub with_left : ℕ → List Candidate → List Candidate
with_left k [] = []
with_left k (c ∷ cs) = cond (eqb c.left k) (c ∷ with_left k cs) (with_left k cs)

-- of two the cheaper, the earlier listed on equal cost
unfoldable pub cheaper : Candidate → Candidate → Candidate
cheaper earlier later = cond (lt later.cost earlier.cost) later earlier

-- the cheapest of c and some listed after it, the earliest of equals
unfoldable pub cheapest_of : Candidate → List Candidate → Candidate
cheapest_of c [] = c
cheapest_of c (d ∷ ds) = cheapest_of (cheaper c d) ds

-- the cheapest of some, the earliest of equals; none of none
unfoldable pub cheapest : List Candidate → List Candidate
cheapest [] = []
cheapest (c ∷ cs) = cheapest_of c cs ∷ []

-- the one that survives for each left end
unfoldable pub survivors : List Candidate → List ℕ → List Candidate
survivors cs [] = []
survivors cs (k ∷ ks) = cheapest (with_left k cs) ++ survivors cs ks

-- those strictly inside the span from boundary `first` to boundary `last`, with points at boundaries ks
abbrev pub candidates_inside : Context → List ℕ → List ℕ → List Float → List ℕ → ℕ → ℕ → List Candidate
candidates_inside x ss runs levels ks first last = survivors (all_listed x ss runs levels ks) (boundaries first (last - suc first))

-- the candidates of the span: its two ends, and between them the survivors
unfoldable pub candidates_of : Context → List ℕ → List ℕ → List Float → List ℕ → ℕ → ℕ → List Candidate
candidates_of x ss runs levels ks first last = node first ∷ (candidates_inside x ss runs levels ks first last ++ (node last ∷ []))
