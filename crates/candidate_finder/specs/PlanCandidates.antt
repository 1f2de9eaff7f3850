-- What document 01 says of the candidates of a plan whose span is not empty, sentence by sentence. Theorems shows it of `candidates_in` wherever the tests pass.
use Rattle.std.specs.Prelude.{◌≡◌, ◌⊎◌, Bool, true, false, ℕ, suc, ◌-◌, ◌≤◌, ◌<◌, T, Float, length}
use mathlib.Core.List.{List, Memᴰ}
use Rattle.std.specs.Float.{binary64}
use Rattle.std.specs.Float.Ieee.{fits, lt}
use Rattle.base_terms.specs.Floats.{nought, nonneg}
use Rattle.grid.specs.Validate.{grid_of}
use Rattle.grid.specs.declared.validate.Recording.{Recording}
use Rattle.silence_list.specs.Silences.{silences_in}
use Rattle.silence_list.specs.declared.config.SegmentConfig.{SegmentConfig}
use Rattle.path_pieces.specs.Domain.{Candidates, Costs}
use Rattle.plan_settings.specs.declared.config.PlanConfig.{PlanConfig}
use Rattle.candidate_span.specs.Gaps.{Cut}
use Rattle.candidate_points.specs.Points.{block_end, is_in}
use Rattle.candidate_costs.specs.QuietestLaws.{Quietest}
use Rattle.candidate_points.specs.Theorems.{Block, InBlock}
use Rattle.candidates.specs.Candidates.{node, with_left}
use Rattle.candidates.specs.Entries.{costs_of}
use Rattle.candidates.specs.Members.{candidate_at}
use Rattle.candidates.specs.Sources.{Source}
use Rattle.candidates.specs.Alone.{candidate_cut}
use Rattle.candidates.specs.Samples.{lefts_of, rights_of}
use Rattle.candidates.specs.Cheapest.{Cheapest}
use Rattle.candidates.specs.declared.candidate.Candidate.{Candidate}
use Rattle.candidate_finder.specs.CandidatesIn.{runs_in, boundary_levels_in, context_of, grid_points_in, listed_in}
use Rattle.candidate_finder.specs.SpanIn.{spacing_in, first_in, last_in, gaps_in, blocked_in}

-- a candidate with left end k, by its number
pub record HasLeftEnd (cs : List Candidate) (k : ℕ) : Type 0 where
  pub number : ℕ
  pub counted : number < length cs
  pub at : (candidate_at cs number).left ≡ k

-- a candidate with these two ends, by its number
pub record Ends (cs : List Candidate) (gap : Cut) : Type 0 where
  pub number : ℕ
  pub counted : number < length cs
  pub is : candidate_cut (candidate_at cs number) ≡ gap

-- a grid point's block, and that it is the quietest boundary there, the first of equals
pub record QuietestOfBlock (blocked : ℕ → Bool) (levels : List Float) (block first last k : ℕ) : Type 0 where
  pub start : ℕ
  pub own : Block blocked levels block last (suc first) start k
  pub quietest : Quietest levels start (block_end blocked block last start) k

module _ (r : Recording) (segment : SegmentConfig) (settings : PlanConfig) (values : List Float) (flags : List ℕ) (levels : List Float) (cs : List Candidate) where
  abbrev first : ℕ
  first = first_in r segment settings values flags

  abbrev last : ℕ
  last = last_in r segment settings values flags

  -- where the candidates lie
  pub record PlanCandidates : Type 0 where
    -- the span's ends are in order and within the frames
    pub span : (first < last) × (last ≤ length values)
    -- "the two ends of the span"
    pub two : 2 ≤ length cs
    pub first_end : candidate_at cs 0 ≡ node first
    pub last_end : candidate_at cs (length cs - 1) ≡ node last
    -- "both ends of each are frame boundaries, none outside the span"
    pub within : (i : ℕ) → i < length cs → (first ≤ (candidate_at cs i).left) × ((candidate_at cs i).left ≤ (candidate_at cs i).right) × ((candidate_at cs i).right ≤ last)
    -- left ends rise, and a right end is before every later left end
    pub rise : (i j : ℕ) → i < j → j < length cs → (candidate_at cs i).left < (candidate_at cs j).left
    pub apart : (i j : ℕ) → i < j → j < length cs → (candidate_at cs i).right < (candidate_at cs j).left
    -- between the ends: "silence candidates, one grid point for each block"
    pub source : (i : ℕ) → 0 < i → suc i < length cs
        → Source (context_of r segment settings (length values)) (silences_in r segment values flags) (runs_in r segment values flags) (boundary_levels_in r segment values flags levels)
        (grid_points_in r segment settings values flags levels) (candidate_at cs i)
    -- nothing is listed outside the span: the Rust's `retain` removes nothing
    pub inside : (c : Candidate) → Memᴰ c (listed_in r segment settings values flags levels) → (first < c.left) × (c.right < last)
    -- "One candidate survives for each left end"
    pub survivor : (c : Candidate) → Memᴰ c (listed_in r segment settings values flags levels) → HasLeftEnd cs c.left
    -- "A dropped gap is a candidate whose left end is below its right end": those candidates and no others
    pub gap_dropped : (i : ℕ) → i < length cs → (candidate_at cs i).left < (candidate_at cs i).right → Memᴰ (candidate_cut (candidate_at cs i)) (gaps_in r segment settings values flags)
    pub gap_found : (gap : Cut) → Memᴰ gap (gaps_in r segment settings values flags) → Ends cs gap
    -- "no other candidate [..] lies in a dropped gap, edges included"
    pub alone : (gap : Cut) → Memᴰ gap (gaps_in r segment settings values flags) → (i : ℕ) → i < length cs
        → (candidate_cut (candidate_at cs i) ≡ gap) ⊎ (((candidate_at cs i).right < gap.left) ⊎ (gap.right < (candidate_at cs i).left))
    -- "one grid point for each block": each boundary that is not blocked lies in a block whose point is listed
    pub blocks : (k : ℕ) → first < k → k < last → blocked_in r segment settings values flags k ≡ false
        → InBlock (blocked_in r segment settings values flags) (boundary_levels_in r segment values flags levels) (spacing_in r segment settings (length values)).block last (suc first)
        (grid_points_in r segment settings values flags levels) k
    -- in samples they pass refusals 15 and 16 of the path search
    pub asked : Candidates (lefts_of (grid_of r (length values)) cs) (rights_of (grid_of r (length values)) cs)

  -- what they cost
  pub record PlanCosts : Type 0 where
    -- no cost is negative, none is a NaN
    pub cost : (i : ℕ) → i < length cs → T (nonneg (candidate_at cs i).cost)
    -- a cut between the ends costs more than nothing, or +inf, where the fixed cost is an f64, as its type says
    pub positive : T (fits binary64 settings.weights.cut) → (i : ℕ) → 0 < i → suc i < length cs → T (lt nought (candidate_at cs i).cost)
    -- "the cheapest, the earlier listed on equal cost"
    pub cheapest : (i : ℕ) → 0 < i → suc i < length cs → Cheapest (with_left (candidate_at cs i).left (listed_in r segment settings values flags levels)) (candidate_at cs i)
    -- "(quietest, the first of equals)"
    pub quietest : (k : ℕ) → is_in (grid_points_in r segment settings values flags levels) k ≡ true
        → QuietestOfBlock (blocked_in r segment settings values flags) (boundary_levels_in r segment values flags levels) (spacing_in r segment settings (length values)).block first last k
    -- the path search may add them up
    pub costs_asked : Costs (costs_of cs) (length cs)
