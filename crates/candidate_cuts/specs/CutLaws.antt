-- What the parts of the code that cuts a silence ask, and one law for each of its ends.
-- A silence's candidate lies in the silence, is its dropped gap where it has one, and its level is a number from 0 to 1.
use Rattle.std.specs.Prelude.{◌≡◌, List, ℕ, ◌≤◌, ◌<◌, Float, Bool, true, false, ltb, get_or}
use Rattle.std.proofs.Math.Path.{ap, refl}
use Rattle.std.proofs.Common.{◌∙◌, sym, arith}
use Rattle.std.specs.Float.{nan}
use borrow.Author.Tests.{lt-ltb, le-ltb, ltb-true, ltb-false}
use Rattle.std.proofs.Math.Logic.{inl, inr}
use Rattle.std.proofs.Math.Nat.{le_refl}
use Rattle.plan_settings.specs.declared.config.Gap.{Gap}
use Rattle.plan_settings.specs.declared.config.Gap.TheVariants.{Keep, Drop}
use Rattle.plan_settings.specs.declared.config.Placement.{Placement}
use Rattle.candidate_span.specs.declared.bounds.Bounds.{Bounds}
use Rattle.candidate_span.specs.declared.padding.Padding.{Padding}
use Rattle.candidate_span.specs.Bounds.{low_of, high_of, bounds_of, is_inner}
use Rattle.candidate_span.specs.BoundsLaws.{high_within, inner_is, low-within}
use Rattle.candidate_cuts.specs.declared.cut.SilenceCut.{SilenceCut}
use Rattle.candidate_cuts.specs.Place.{WithLevels, Placeable, chosen_by}
use Rattle.candidate_cuts.specs.Cut.{split_point, least_level, point_cut, open_cut, silence_cut, Inner}
use Rattle.base_laws.specs.Tests.{holds, tested}
use Rattle.candidate_span.specs.Gaps.{Cut, is_gap, silence_gap}
use Rattle.candidate_costs.specs.NormalizeLaws.{OnScale}
use Rattle.candidate_cuts.specs.PlaceLaws.{chosen_within}
use Rattle.candidate_cuts.specs.LeastLaws.{least_within}

-- ---- the middle of overlapping padding

-- it stays within the silence
pub split_within : (next prev start end : ℕ) → start ≤ end → (start ≤ split_point next prev start end) × (split_point next prev start end ≤ end)
unfolding split_point
split_within next prev start end h = (omega arith, omega arith)

-- ---- what the parts of the code ask

module _ (gap : Gap) (placement : Placement) (p : Padding) (levels : List Float) (start end : ℕ) where
  -- every boundary of the silence has a level
  pub whole_bounded : Inner placement p.frames levels start end → WithLevels levels start end
  whole_bounded inner = record { order = omega (arith, inner.some); held = omega (arith, inner.before_sound, inner.held); few = omega (arith, inner.before_sound, inner.few) }

  -- a boundary may be placed anywhere between bounds that lie in the silence
  pub open_placeable : (lo hi : ℕ) → hi ≤ end → lo ≤ hi → Inner placement p.frames levels start end → Placeable placement levels lo hi
  open_placeable lo hi w h inner =
      search arith

  -- ---- one law for each end of the code

  module _ (b : Bounds) (is : b ≡ bounds_of p start end) where
    low : b.lo ≡ low_of p start
    low = ap (λ (x : Bounds). x.lo) is

    high : b.hi ≡ high_of p end
    high = ap (λ (x : Bounds). x.hi) is

    -- so a boundary may be placed between the bounds of the silence
    pub bounds_placeable : b.lo ≤ b.hi → Inner placement p.frames levels start end → Placeable placement levels b.lo b.hi
    bounds_placeable h inner = open_placeable b.lo b.hi (omega (arith, high, high_within p end)) h inner

    -- the padding overlaps: the cut is at the middle of the overlap
    pub silence_overlaps : (r : SilenceCut) (k : ℕ) → b.hi < b.lo → k ≡ split_point b.hi b.lo start end → r ≡ point_cut levels k
        → r ≡ silence_cut gap placement p levels start end
    unfolding silence_cut
    silence_overlaps r k h e q =
        rw (lt-ltb (high_of p end) (low_of p start) (omega (arith, low, high)), ← low, ← high) (q ∙ ap (λ (j : ℕ). point_cut levels j) e)

    -- silence is kept: the cut is at the placed boundary
    pub silence-keeps : (r : SilenceCut) (k : ℕ) → gap ≡ Keep → b.lo ≤ b.hi → k ≡ chosen_by placement levels b.lo b.hi → r ≡ point_cut levels k
        → r ≡ silence_cut gap placement p levels start end
    unfolding silence_cut open_cut
    silence-keeps r k g h e q =
        rw (g, le-ltb (high_of p end) (low_of p start) (omega (arith, low, high)), ← low, ← high) (q ∙ ap (λ (j : ℕ). point_cut levels j) e)

    -- gaps are dropped: the cut is the whole gap, at the least level of the silence
    pub silence_drops : (level : Float) → gap ≡ Drop → b.lo ≤ b.hi → level ≡ least_level levels start end
        → record { left = b.lo; right = b.hi; level = level } ≡ silence_cut gap placement p levels start end
    unfolding silence_cut open_cut
    silence_drops level g h e = rw (g, e, le-ltb (high_of p end) (low_of p start) (omega (arith, low, high)), ← low, ← high)

-- ---- where it lies

module _ (gap : Gap) (placement : Placement) (p : Padding) (levels : List Float) (start end : ℕ) where
  -- the padding overlaps, or it does not
  by_bounds : (P : SilenceCut → Type 0) → (high_of p end < low_of p start → P (point_cut levels (split_point (high_of p end) (low_of p start) start end)))
      → (low_of p start ≤ high_of p end → P (open_cut gap placement levels start end (low_of p start) (high_of p end)))
      → P (silence_cut gap placement p levels start end)
  unfolding silence_cut
  by_bounds P f g = elim (tested (ltb (high_of p end) (low_of p start))) [
    | inl e ↦ rw e (f (ltb-true (high_of p end) (low_of p start) e))
    | inr e ↦ rw e (g (ltb-false (high_of p end) (low_of p start) e))
  ]

abbrev Inside : ℕ → ℕ → SilenceCut → Type 0
Inside start end c = (start ≤ c.left) × (c.left ≤ c.right) × (c.right ≤ end)

module _ (placement : Placement) (p : Padding) (levels : List Float) (start end : ℕ) (inner : Inner placement p.frames levels start end) where
  bounds_within : (start ≤ low_of p start) × (high_of p end ≤ end)
  bounds_within = ((low-within p start (omega (arith, inner.some, inner.before_sound))).0, high_within p end)

  split_inside : (start ≤ split_point (high_of p end) (low_of p start) start end) × (split_point (high_of p end) (low_of p start) start end ≤ end)
  split_inside = split_within (high_of p end) (low_of p start) start end (omega (arith, inner.some))

  placed_inside : low_of p start ≤ high_of p end → (start ≤ chosen_by placement levels (low_of p start) (high_of p end)) × (chosen_by placement levels (low_of p start) (high_of p end) ≤ end)
  placed_inside h =
      let w = chosen_within placement levels (low_of p start) (high_of p end) (open_placeable Keep placement p levels start end (low_of p start) (high_of p end) bounds_within.1 h inner) in
      (omega (arith, w.0, bounds_within.0), omega (arith, w.1, bounds_within.1))

  open_inside : (gap : Gap) → low_of p start ≤ high_of p end → Inside start end (open_cut gap placement levels start end (low_of p start) (high_of p end))
  unfolding open_cut
  open_inside Keep h = ((placed_inside h).0, le_refl (chosen_by placement levels (low_of p start) (high_of p end)), (placed_inside h).1)
  open_inside Drop h = (bounds_within.0, h, bounds_within.1)

  -- the cut lies in the silence
  pub cut-within : (gap : Gap)
      → (start ≤ (silence_cut gap placement p levels start end).left)
      × ((silence_cut gap placement p levels start end).left ≤ (silence_cut gap placement p levels start end).right)
      × ((silence_cut gap placement p levels start end).right ≤ end)
  cut-within gap =
      by_bounds gap placement p levels start end (Inside start end)
      (λ h. (split_inside.0, le_refl (split_point (high_of p end) (low_of p start) start end), split_inside.1)) (open_inside gap)

  -- ---- its level

  module _ (scale : (k : ℕ) → k ≤ p.frames → OnScale (get_or levels k nan)) where
    scaled : (k : ℕ) → k ≤ end → OnScale (get_or levels k nan)
    scaled k h = scale k (omega (arith, inner.before_sound))

    open_level : (gap : Gap) → low_of p start ≤ high_of p end → OnScale (open_cut gap placement levels start end (low_of p start) (high_of p end)).level
    unfolding open_cut
    open_level Keep h = scaled (chosen_by placement levels (low_of p start) (high_of p end)) (placed_inside h).1
    open_level Drop h = least_within levels start end (omega (arith, inner.some)) scaled

    -- the level is a number from 0 to 1
    pub cut_level : (gap : Gap) → OnScale (silence_cut gap placement p levels start end).level
    cut_level gap =
        by_bounds gap placement p levels start end (λ (c : SilenceCut). OnScale c.level)
        (λ h. scaled (split_point (high_of p end) (low_of p start) start end) split_inside.1) (open_level gap)

-- ---- dropped gaps

-- the silence has a gap, and gaps are dropped
unfoldable pub has_gap : Gap → Padding → ℕ → ℕ → Bool
has_gap Keep p start end = false
has_gap Drop p start end = is_gap p start end

-- where gaps are dropped, a silence that has a gap has a dropped one
pub has_gap_lem : (gap : Gap) (p : Padding) (start end : ℕ) → gap ≡ Drop → is_gap p start end ≡ true → has_gap gap p start end ≡ true
unfolding has_gap
has_gap_lem gap p start end g t = rw g t

-- both ends of a cut
abbrev pub edges_of : SilenceCut → Cut
edges_of c = record { left = c.left; right = c.right }

module _ (placement : Placement) (p : Padding) (levels : List Float) (start end : ℕ) (inner : Inner placement p.frames levels start end) where
  point-none : (k : ℕ) → ltb k k ≡ false
  point-none k = le-ltb k k (le_refl k)

  -- no more is left than the padding
  gap_none : (gap : Gap) → high_of p end < low_of p start → has_gap gap p start end ≡ false
  unfolding has_gap is_gap
  gap_none Keep h = refl
  gap_none Drop h = rw (le-ltb (low_of p start) (high_of p end) (omega arith)) (elim (tested (is_inner p.frames start end)) [ inl e ↦ rw e | inr e ↦ rw e ])

  open_gap : (gap : Gap) → ltb (open_cut gap placement levels start end (low_of p start) (high_of p end)).left (open_cut gap placement levels start end (low_of p start) (high_of p end)).right ≡ has_gap gap p start end
  unfolding open_cut has_gap is_gap
  open_gap Keep = point-none (chosen_by placement levels (low_of p start) (high_of p end))
  open_gap Drop = rw (inner_is p.frames start end (λ e. omega (arith, inner.after_sound)) (λ e. omega (arith, inner.before_sound)))

  -- the left end is below the right end exactly where the silence has a dropped gap
  pub cut_gap : (gap : Gap)
      → ltb (silence_cut gap placement p levels start end).left (silence_cut gap placement p levels start end).right ≡ has_gap gap p start end
  cut_gap gap =
      by_bounds gap placement p levels start end (λ (c : SilenceCut). ltb c.left c.right ≡ has_gap gap p start end)
      (λ h. point-none (split_point (high_of p end) (low_of p start) start end) ∙ sym (gap_none gap h)) (λ h. open_gap gap)

  open_edges : (gap : Gap) → has_gap gap p start end ≡ true → edges_of (open_cut gap placement levels start end (low_of p start) (high_of p end)) ≡ silence_gap p start end
  unfolding open_cut has_gap
  open_edges Keep t = absurd (holds t)
  open_edges Drop t = refl

  -- and then its ends are the gap's
  pub cut_gap_is : (gap : Gap) → has_gap gap p start end ≡ true → edges_of (silence_cut gap placement p levels start end) ≡ silence_gap p start end
  cut_gap_is gap t =
      by_bounds gap placement p levels start end (λ (c : SilenceCut). edges_of c ≡ silence_gap p start end)
      (λ h. absurd (holds (sym (gap_none gap h) ∙ t))) (λ h. open_edges gap t)
