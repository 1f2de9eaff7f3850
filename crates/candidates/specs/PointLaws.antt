-- What a point and a silence's own candidate need of the recording's lists.
use Rattle.std.specs.Prelude.{◌≡◌, List, ℕ, ◌-◌, ◌≤◌, ◌<◌, Float, length, get_or}
use Rattle.std.specs.Float.{nan}
use Rattle.candidate_span.specs.Listed.{silence_count, start_at, end_at}
use Rattle.candidate_span.specs.ListedLaws.{Listed}
use Rattle.candidate_costs.specs.Cost.{cut_cost}
use Rattle.candidate_costs.specs.Stretch.{stretch_at, secs_of}
use Rattle.candidate_cuts.specs.declared.cut.SilenceCut.{SilenceCut}
use Rattle.candidate_cuts.specs.Cut.{silence_cut, Inner}
use Rattle.candidates.specs.declared.candidate.Reason.{Reason}
use Rattle.candidates.specs.declared.candidate.Reason.TheVariants.{Silence}
use Rattle.candidates.specs.declared.context.Context.{Context}
use Rattle.candidates.specs.Candidates.{point_reason, point_at, own_at}

-- silences, and a level at boundary k
pub record Heard (x : Context) (ss : List ℕ) (levels : List Float) (k : ℕ) : Type 0 where
  pub listed : Listed x.padding.frames ss
  pub held : k < length levels

-- a stretch for each frame, and boundary k among them
pub record Stretched (runs : List ℕ) (k : ℕ) : Type 0 where
  pub some : 0 < length runs
  pub within : k ≤ length runs

-- silence i has sound on both sides
pub record Cuttable (x : Context) (ss : List ℕ) (levels : List Float) (i : ℕ) : Type 0 where
  pub listed : i < silence_count ss
  pub inner : Inner x.placement x.padding.frames levels (start_at ss i) (end_at ss i)

-- ---- what their functions put together

module _ (x : Context) (ss : List ℕ) (levels : List Float) where
  -- the parts that `own` reckons make the silence's own candidate
  pub own_is : (i start end : ℕ) (r : SilenceCut) (secs cost : Float) → start ≡ start_at ss i → end ≡ end_at ss i
      → r ≡ silence_cut x.gap x.placement x.padding levels start end → secs ≡ secs_of x.frame_secs (end - start) → cost ≡ cut_cost x.weights r.level secs
      → record { left = r.left; right = r.right; cost = cost; reason = Silence } ≡ own_at x ss levels i
  unfolding own_at
  own_is i start end r secs cost a b c d e = rw (e, d, c, a, b)

  -- the parts that `point` reckons make the point
  pub point_is : (runs : List ℕ) (k stretch : ℕ) (secs cost : Float) (reason : Reason) → stretch ≡ stretch_at runs k → secs ≡ secs_of x.frame_secs stretch
      → cost ≡ cut_cost x.weights (get_or levels k nan) secs → reason ≡ point_reason x ss levels k → record { left = k; right = k; cost = cost; reason = reason } ≡ point_at x ss runs levels k
  unfolding point_at
  point_is runs k stretch secs cost reason a b c d = rw (d, c, b, a)
