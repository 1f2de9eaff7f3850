-- Document 01's "silence candidates": one for each silence with sound on both sides. Where the padding overlaps it is the middle of the overlap; else it is the whole gap where gaps are dropped, and the placed boundary where silence is kept.
-- `silence_cut` is what contracts cite; CutLaws says where it lies and what its level is.
use Rattle.std.specs.Prelude.{◌≡◌, true, false, cond, List, ℕ, zero, suc, ◌+◌, ◌-◌, ◌/◌, ◌≤◌, ◌<◌, min, max, ltb, Float, length, get_or}
use Rattle.std.specs.Float.{nan, inf}
use Rattle.base_terms.specs.Floats.{min_of}
use Rattle.grid.specs.Limits.{max_frames}
use Rattle.plan_settings.specs.declared.config.Gap.{Gap}
use Rattle.plan_settings.specs.declared.config.Gap.TheVariants.{Keep, Drop}
use Rattle.plan_settings.specs.declared.config.Placement.{Placement}
use Rattle.candidate_span.specs.declared.padding.Padding.{Padding}
use Rattle.candidate_span.specs.Bounds.{low_of, high_of}
use Rattle.candidate_span.specs.Listed.{start_at, end_at}
use Rattle.plan_settings.specs.Tests.{ratio_ok}
use Rattle.candidate_cuts.specs.declared.cut.SilenceCut.{SilenceCut}
use Rattle.candidate_cuts.specs.Place.{chosen_by}

-- ---- definitions

-- the middle of the overlap of two paddings, kept within the silence from start to end
unfoldable pub split_point : ℕ → ℕ → ℕ → ℕ → ℕ
split_point next prev start end = min (max ((next + prev) / 2) start) end

-- the least of a level and those of m boundaries from k on
unfoldable pub least_level_from : List Float → Float → ℕ → ℕ → Float
least_level_from levels least k zero = least
least_level_from levels least k (suc m) = least_level_from levels (min_of least (get_or levels k nan)) (suc k) m

-- the least level of the boundaries from start to end, both inclusive
unfoldable pub least_level : List Float → ℕ → ℕ → Float
least_level levels start end = least_level_from levels (inf false) start (end + 1 - start)

-- a cut at one boundary
abbrev pub point_cut : List Float → ℕ → SilenceCut
point_cut levels k = record { left = k; right = k; level = get_or levels k nan }

-- in a silence from start to end, of which lo to hi is left beside its padding: the placed boundary, or all of it with the least level of the whole silence
unfoldable pub open_cut : Gap → Placement → List Float → ℕ → ℕ → ℕ → ℕ → SilenceCut
open_cut Keep placement levels start end lo hi = point_cut levels (chosen_by placement levels lo hi)
open_cut Drop placement levels start end lo hi = record { left = lo; right = hi; level = least_level levels start end }

-- document 01's silence candidate: both its ends, and the level that its cost is made with
unfoldable pub silence_cut : Gap → Placement → Padding → List Float → ℕ → ℕ → SilenceCut
silence_cut gap placement p levels start end =
    let lo = low_of p start in
    let hi = high_of p end in
    cond (ltb hi lo) (point_cut levels (split_point hi lo start end)) (open_cut gap placement levels start end lo hi)

-- the candidate of silence i of a list
abbrev pub silence_cut_at : Gap → Placement → Padding → List Float → List ℕ → ℕ → SilenceCut
silence_cut_at gap placement p levels ss i = silence_cut gap placement p levels (start_at ss i) (end_at ss i)

-- ---- what it asks

-- a silence with sound on both sides, a level for each frame boundary, and a ratio that refusal 9 passes
pub record Inner (placement : Placement) (n : ℕ) (levels : List Float) (start end : ℕ) : Type 0 where
  pub after_sound : 0 < start
  pub some : start < end
  pub before_sound : end < n
  pub few : n ≤ max_frames
  pub held : n < length levels
  pub ratio : ratio_ok placement ≡ true
