-- Every candidate's cost is of the path search's domain: not NaN, and not negative. Between the ends of the span it is above zero. It is +inf where finite weights give that.
use Rattle.std.specs.Prelude.{◌≡◌, true, List, ℕ, zero, suc, ◌-◌, ◌≤◌, ◌<◌, T, Float, length, get_or}
use Rattle.std.proofs.Common.{subst, inl, inr, eq-or-lt_of_le, arith}
use Rattle.std.specs.Float.{nan, binary64}
use Rattle.std.specs.Float.Ieee.{lt, fits}
use Rattle.base_terms.specs.Floats.{nought, nonneg}
use Rattle.base_laws.specs.Nonneg.{nought-nonneg}
use Rattle.grid.specs.Limits.{max_frame_rate}
use Rattle.grid.specs.Durations.{frame_secs_of}
use Rattle.grid.specs.Boundary.{Bounded}
use Rattle.grid.specs.declared.boundary.FrameGrid.{FrameGrid}
use Rattle.plan_settings.specs.Tests.{weights_ok}
use Rattle.candidate_span.specs.Kept.{boundaries}
use Rattle.candidate_span.specs.Listed.{start_at, end_at}
use Rattle.candidate_span.specs.ListedLaws.{listed-within}
use Rattle.candidate_cuts.specs.Cut.{silence_cut_at}
use Rattle.candidate_cuts.specs.CutLaws.{cut_level}
use Rattle.candidate_cuts.specs.CutsLaws.{InnerAt, inner_cut}
use Rattle.candidate_costs.specs.Cost.{cut_cost}
use Rattle.candidate_costs.specs.Stretch.{stretch_at, secs_of}
use Rattle.candidate_costs.specs.StretchLaws.{stretch_first, stretch_inner, stretch_last, secs_fine}
use Rattle.candidate_costs.specs.NormalizeLaws.{OnScale}
use Rattle.candidate_costs.specs.CostLaws.{cost_fine, cost_positive}
use Rattle.candidates.specs.declared.candidate.Candidate.{Candidate}
use Rattle.candidates.specs.declared.context.Context.{Context}
use Rattle.candidates.specs.Candidates.{point_at, own_at, all_listed, candidates_of}
use Rattle.candidates.specs.Members.{candidate_at, at_member, survivor_of}
use Rattle.candidates.specs.Sources.{Planned, Source, own, point, point-ends}
use Rattle.candidates.specs.Order.{span-ends}
use Rattle.candidates.specs.Found.{candidate_every, inside_span, inner_survives, candidate_source}

-- what costs are made with: weights that refusal 10 passes, levels from 0 to 1, the grid's frame, and a stretch for each frame
pub record Costable (x : Context) (g : FrameGrid) (runs : List ℕ) (levels : List Float) : Type 0 where
  pub weighed : weights_ok x.weights ≡ true
  pub scale : (k : ℕ) → k ≤ x.padding.frames → OnScale (get_or levels k nan)
  pub bounded : Bounded g
  pub rate : g.frame_rate ≤ max_frame_rate
  pub lasts : x.frame_secs ≡ frame_secs_of g.frame_rate g.hop
  pub stretches : length runs ≡ x.padding.frames
  pub counted : (i : ℕ) → get_or runs i 0 < 4294967296

module _ (x : Context) (g : FrameGrid) (runs : List ℕ) (levels : List Float) (q : Costable x g runs levels) where
  -- so many frames last a time that is not negative
  secs : (frames : ℕ) → frames < 4294967296 → T (nonneg (secs_of x.frame_secs frames))
  secs frames h = rw q.lasts (secs_fine g.frame_rate g.hop q.bounded.divisor q.rate q.bounded.hop frames h).0

  -- the stretch at a boundary is one of the frames'
  stretch_counted : (k : ℕ) → k ≤ x.padding.frames → 0 < x.padding.frames → stretch_at runs k < 4294967296
  stretch_counted zero h s = subst (λ (n : ℕ). n < 4294967296) (stretch_first runs (omega (arith, q.stretches))) (q.counted 0)
  stretch_counted (suc k) h s = elim (eq-or-lt_of_le h) [
    | inl e ↦ subst (λ (n : ℕ). n < 4294967296) (stretch_last runs (suc k) (omega arith) (omega (arith, q.stretches))) (q.counted (suc k - 1))
    | inr l ↦
        subst (λ (n : ℕ). n < 4294967296) (stretch_inner runs (suc k) (omega arith) (omega (arith, q.stretches)))
        (omega (arith, q.counted (suc k - 1), q.counted (suc k)))
  ]

  -- what holds of every cost of a cut on the scale holds of what is listed, and of what survives of it
  module _ (P : Float → Type 0) (f : (level time : Float) → OnScale level → T (nonneg time) → P (cut_cost x.weights level time)) where
    point_has : (ss : List ℕ) (k : ℕ) → k ≤ x.padding.frames → 0 < x.padding.frames → P (point_at x ss runs levels k).cost
    unfolding point_at
    point_has ss k h s = f (get_or levels k nan) (secs_of x.frame_secs (stretch_at runs k)) (q.scale k h) (secs (stretch_at runs k) (stretch_counted k h s))

    module _ (ss ks : List ℕ) (first last : ℕ) (p : Planned x ss levels ks first last) where
      own_has : (i : ℕ) → InnerAt x.padding.frames ss i → P (own_at x ss levels i).cost
      unfolding own_at
      own_has i a =
          let c = silence_cut_at x.gap x.placement x.padding levels ss i in
          let w = cut_level x.placement x.padding levels (start_at ss i) (end_at ss i)
          (inner_cut x.gap x.placement x.padding levels ss p.prepared i a) q.scale x.gap in
          f c.level (secs_of x.frame_secs (end_at ss i - start_at ss i)) w
          (secs (end_at ss i - start_at ss i) (omega (arith, listed-within p.prepared.spanned.listed i a.listed, p.prepared.few)))

      source_has : (c : Candidate) → Source x ss runs levels ks c → c.left < last → P c.cost
      source_has c (own i a e) l = rw e (own_has i a)
      source_has c (point k t e) l =
          let w = span-ends x ss runs levels ks first last p in
          let b : k < last = rw (e, (point-ends x ss runs levels ks k).0) at l in
          rw e (point_has ss k (omega (arith, w.1)) (omega (arith, w.1)))

  fine : (level time : Float) → OnScale level → T (nonneg time) → T (nonneg (cut_cost x.weights level time))
  fine level time s h = cost_fine x.weights level time q.weighed s h

  module _ (ss ks : List ℕ) (first last : ℕ) (p : Planned x ss levels ks first last) where
    abbrev cs : List Candidate
    cs = candidates_of x ss runs levels ks first last

    -- the cost of what is listed is not negative
    pub source_cost : (c : Candidate) → Source x ss runs levels ks c → c.left < last → T (nonneg c.cost)
    source_cost = source_has (λ (y : Float). T (nonneg y)) fine ss ks first last p

    -- so is every cost
    pub candidate_cost : (i : ℕ) → i < length cs → T (nonneg (candidate_at cs i).cost)
    candidate_cost i h =
        candidate_every x ss runs levels ks first last (λ (c : Candidate). T (nonneg c.cost)) nought-nonneg nought-nonneg
        (λ (c : Candidate) (s : Source x ss runs levels ks c) (f : first < c.left) (l : c.left < last). source_cost c s l)
        (candidate_at cs i) (at_member cs i h)

    -- above zero where the fixed cost is an f64, as its type says: what is listed, and so what is compared for a left end
    module _ (held : T (fits binary64 x.weights.cut)) where
      -- what is listed costs something
      pub source_positive : (c : Candidate) → Source x ss runs levels ks c → c.left < last → T (lt nought c.cost)
      source_positive =
          source_has (λ (y : Float). T (lt nought y))
          (λ (level time : Float) (s : OnScale level) (h : T (nonneg time)). cost_positive x.weights level time q.weighed s h held) ss ks first last p

      -- and every candidate but the two ends of the span, which cost nothing
      pub candidate_positive : (i : ℕ) → 0 < i → suc i < length cs → T (lt nought (candidate_at cs i).cost)
      candidate_positive i s h =
          source_positive (candidate_at cs i) (candidate_source x ss runs levels ks first last i s h)
          (inside_span x ss runs levels ks first last (candidate_at cs i).left (survivor_of (all_listed x ss runs levels ks) (boundaries first (last - suc first)) (candidate_at cs i) (inner_survives x ss runs levels ks first last i s h)).1).1
