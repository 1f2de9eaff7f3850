-- Places stand a kept frame apart, so the place with j kept frames before it starts j boundaries after the span's first, moved on by the gaps between.
use Rattle.std.specs.Prelude.{◌≡◌, ◌⊎◌, Bool, ◌&&◌, ℕ, zero, suc, ◌+◌, ◌-◌, ◌*◌, ◌≤◌, ◌<◌, ltb, length, get_or, drop}
use Rattle.std.proofs.Math.Path.{refl, ap}
use Rattle.std.proofs.Common.{sym, subst, ◌∙◌, inl, inr, drop-cons}
use Rattle.std.proofs.Math.Bool.{true, false, cond}
use mathlib.Core.List.{List, [], ◌∷◌}
use native.Mathlib.Omega.{arith}
use Rattle.std.proofs.Math.Dec.{leb}
use Rattle.std.proofs.Math.ListN.{length-drop}
use borrow.Author.Tests.{lt-ltb, le-ltb, ltb-true, ltb-false, leb-true, leb-false, le-leb}
use Rattle.base_laws.specs.Tests.{both, lt_or_le, unmet}
use Rattle.plan_settings.specs.declared.config.Gap.{Gap}
use Rattle.plan_settings.specs.declared.config.Gap.TheVariants.{Keep, Drop}
use Rattle.candidate_span.specs.declared.bounds.Bounds.{Bounds}
use Rattle.candidate_span.specs.declared.padding.Padding.{Padding}
use Rattle.candidate_span.specs.Bounds.{low_of, high_of, bounds_of, is_inner}
use Rattle.candidate_span.specs.Listed.{silence_count, start_at, end_at}
use Rattle.candidate_span.specs.Gaps.{Cut, is_gap, inner_gaps, gaps_of, gap_width, dropped, Spread}
use Rattle.candidate_span.specs.GapsLaws.{dropped-first}
use Rattle.candidate_span.specs.Kept.{kept_frames}
use Rattle.candidate_span.specs.KeptLaws.{dropped_less}
use Rattle.candidate_span.specs.Span.{Span}
use Rattle.division.specs.Division.{kept_in, Place, boundary, gap}
use Rattle.division.specs.Places.{cut_at, points, places_from}
use Rattle.division.specs.PlacesLaws.{same_ends, place_inside, places_apart}
use Rattle.division.specs.Shares.{place_after}
use Rattle.completion.specs.declared.shares.Passed.{Passed}
use Rattle.completion_reach.specs.Place.{place_at}
use Rattle.completion_reach.specs.PlaceLaws.{Standing, held, free, standing}
use Rattle.completion.specs.Counted.{moved_on, is_ahead, Counting, Counted}

-- ---- the place with j kept frames before it

points-before : (a n : ℕ) (ks : List Cut) (i : ℕ) (d : Cut) → i < n → (get_or (points a n ks) i d).left ≡ a + suc i
points-before a zero ks i d h = absurd (omega arith)
points-before a (suc n) ks zero d h = omega arith
points-before a (suc n) ks (suc i) d h = points-before (suc a) n ks i d (omega arith) ∙ omega arith

points-after : (a n : ℕ) (ks : List Cut) (i j : ℕ) (d : Cut) → j ≡ n + i → get_or (points a n ks) j d ≡ get_or ks i d
points-after a zero ks i j d e =
    let h : j ≡ i = omega arith in
    ap (λ (m : ℕ). get_or ks m d) h
points-after a (suc n) ks i zero d e = absurd (omega arith)
points-after a (suc n) ks i (suc j) d e = points-after (suc a) n ks i j d (omega arith)

-- from before a gap from l to r to behind it
number_behind : (a l i : ℕ) → a < l → l < a + suc i → i ≡ (l - suc a) + suc (a + i - l)
number_behind a l i h k = omega arith

moved_behind : (a l r i : ℕ) → l < r → l < a + suc i → r + suc (a + i - l) ≡ a + suc i + (r - l)
moved_behind a l r i h k = omega arith

kept_behind : (a l r z d i : ℕ) → a < l → l < r → r + d < z → l < a + suc i → suc i < z - a - ((r - l) + d) → suc (a + i - l) < z - r - d
kept_behind a l r z d i h k m n q = omega arith

place_moved : (a : ℕ) (gs : List Cut) (z i : ℕ) (d : Cut) → Spread a gs z → suc i < kept_frames a gs z → (get_or (places_from a gs z) i d).left ≡ moved_on gs (a + suc i)
unfolding kept_frames dropped moved_on
place_moved a [] z i d s h = points-before a (z - suc a) [] i d (omega arith)
place_moved a (g ∷ gs) z i d s h = elim (lt_or_le g.left (a + suc i)) [
  | inl l ↦
      rw (lt-ltb g.left (a + suc i) l)
      (ap (λ (c : Cut). c.left) (points-after a (g.left - suc a) (g ∷ places_from g.right gs z) (suc (a + i - g.left)) i d (number_behind a g.left i s.0 l))
      ∙ place_moved g.right gs z (a + i - g.left) d s.2 (kept_behind a g.left g.right z (dropped gs) i s.0 s.1 (dropped_less g.right gs z s.2) l h)
      ∙ ap (moved_on gs) (moved_behind a g.left g.right i s.1 l))
  | inr l ↦ rw (le-ltb g.left (a + suc i) l) (early l (lt_or_le (a + suc i) g.left))
]
  where
    early : a + suc i ≤ g.left → (a + suc i < g.left) ⊎ (g.left ≤ a + suc i) → (get_or (places_from a (g ∷ gs) z) i d).left ≡ a + suc i
    early l (inl q) = points-before a (g.left - suc a) (g ∷ places_from g.right gs z) i d (omega (arith, q))
    early l (inr q) =
        let e : i ≡ (g.left - suc a) + 0 = omega (arith, l, q, s.0) in
        let here : g.left ≡ a + suc i = omega (arith, l, q) in
        ap (λ (c : Cut). c.left) (points-after a (g.left - suc a) (g ∷ places_from g.right gs z) 0 i d e) ∙ here

module _ (s : Span) (spread : Spread s.first s.gaps s.last) where
  -- the place with j kept frames before it starts at the boundary that counting moves on to
  pub after_moved : (j : ℕ) → 0 < j → j < kept_in s → (place_after s j).left ≡ moved_on s.gaps (s.first + j)
  after_moved j h l =
      let e : s.first + suc (j - 1) ≡ s.first + j = omega arith in
      place_moved s.first s.gaps s.last (j - 1) (cut_at 0) spread (omega (arith, h, l)) ∙ ap (moved_on s.gaps) e

  -- a place is that of its left end
  pub place_of : (p : Cut) → Place s p → place_at s.gaps p.left ≡ p
  place_of p q = go q (standing s.gaps p.left)
    where
      inside : (s.first < p.left) × (p.left ≤ p.right) × (p.right < s.last)
      inside = place_inside s spread p q

      go : Place s p → Standing s.gaps p.left → place_at s.gaps p.left ≡ p
      go t (held g m a b e) = elim (places_apart s spread p g q (gap m) b) [
        | inl h ↦ absurd (omega (arith, h, a, inside.1))
        | inr h ↦ e ∙ sym h
      ]
      go (boundary r m) (free o e) = e ∙ same_ends (cut_at p.left) p refl r
      go (gap m) (free o e) = elim (o p m) [ inl h ↦ absurd (omega (arith, h)) | inr h ↦ absurd (omega (arith, h, inside.1)) ]

-- ---- silence by silence

module _ (p : Padding) (start end k : ℕ) (ss : List ℕ) where
  -- the gap of the first silence is ahead
  moved_stays : is_ahead p start end k ≡ true → moved_on (inner_gaps p (start ∷ (end ∷ ss))) k ≡ k
  unfolding moved_on inner_gaps is_ahead
  moved_stays e =
      let parts = both (is_gap p start end) (leb k (low_of p start)) e in
      rw (parts.0, le-ltb (low_of p start) k (leb-true k (low_of p start) parts.1))

  -- it is not, or there is none
  moved_passes : is_ahead p start end k ≡ false
      → moved_on (inner_gaps p (start ∷ (end ∷ ss))) k ≡ moved_on (inner_gaps p ss) (k + gap_width p start end)
  unfolding moved_on inner_gaps is_ahead is_gap gap_width
  moved_passes =
      go (is_inner p.frames start end) (ltb (low_of p start) (high_of p end)) (leb k (low_of p start))
      (ltb-false (low_of p start) (high_of p end)) (leb-false k (low_of p start))
    where
      here : Cut
      here = record { left = low_of p start; right = high_of p end }

      none : (w : ℕ) → w ≡ 0 → moved_on (inner_gaps p ss) k ≡ moved_on (inner_gaps p ss) (k + w)
      none w e =
          let q : k ≡ k + w = omega arith in
          ap (moved_on (inner_gaps p ss)) q

      go : (a b c : Bool) → (b ≡ false → high_of p end ≤ low_of p start) → (c ≡ false → low_of p start < k) → ((a && b) && c) ≡ false
          → moved_on (cond (a && b) (here ∷ inner_gaps p ss) (inner_gaps p ss)) k
          ≡ moved_on (inner_gaps p ss) (k + cond a (high_of p end - low_of p start) 0)
      go true true true f f' e = unmet (sym e)
      go true true false f f' e = rw (lt-ltb (low_of p start) k (f' refl))
      go true false c f f' e = none (high_of p end - low_of p start) (omega (arith, f refl))
      go false b c f f' e = none 0 refl

-- what is not ahead of a boundary is not ahead of a later one
ahead-later : (p : Padding) (start end k k' : ℕ) → k ≤ k' → is_ahead p start end k ≡ false → is_ahead p start end k' ≡ false
unfolding is_ahead
ahead-later p start end k k' h = go (is_gap p start end) (leb k' (low_of p start)) (leb-true k' (low_of p start))
  where
    go : (a b : Bool) → (b ≡ true → k' ≤ low_of p start) → (a && leb k (low_of p start)) ≡ false → (a && b) ≡ false
    go true true f e = sym (le-leb k (low_of p start) (omega (arith, h, f refl))) ∙ e
    go true false f e = refl
    go false b f e = refl

-- as code tells it: a gap has a frame at least
module _ (p : Padding) (start end k w : ℕ) (is : w ≡ gap_width p start end) where
  -- no frame is dropped: there is no gap
  pub ahead_none : w ≡ 0 → false ≡ is_ahead p start end k
  unfolding is_ahead is_gap gap_width
  ahead_none e = go (is_inner p.frames start end) (ltb (low_of p start) (high_of p end)) (ltb-true (low_of p start) (high_of p end)) (sym is ∙ e)
    where
      go : (a b : Bool) → (b ≡ true → low_of p start < high_of p end) → cond a (high_of p end - low_of p start) 0 ≡ 0
          → false ≡ ((a && b) && leb k (low_of p start))
      go true true f q = absurd (omega (arith, f refl, q))
      go true false f q = refl
      go false b f q = refl

  -- some are: the gap is ahead where its start is
  pub ahead_some : (w ≡ 0 → ⊥) → (b : Bounds) → b ≡ bounds_of p start end → leb k b.lo ≡ is_ahead p start end k
  unfolding is_ahead is_gap gap_width
  ahead_some d b q = go (is_inner p.frames start end) (ltb (low_of p start) (high_of p end)) (ltb-false (low_of p start) (high_of p end)) is
    where
      go : (a c : Bool) → (c ≡ false → high_of p end ≤ low_of p start) → w ≡ cond a (high_of p end - low_of p start) 0
          → leb k b.lo ≡ ((a && c) && leb k (low_of p start))
      go true true f e = ap (λ (t : Bounds). leb k t.lo) q
      go true false f e = absurd (d (omega (arith, f refl, e)))
      go false c f e = absurd (d e)

-- the silences from number i on
rest_at : (ss : List ℕ) (i : ℕ) → i < silence_count ss → drop (2 * i) ss ≡ start_at ss i ∷ (end_at ss i ∷ drop (2 * (i + 1)) ss)
rest_at ss i h =
    let e : suc (2 * i) ≡ 2 * i + 1 = omega arith in
    let f : suc (2 * i + 1) ≡ 2 * (i + 1) = omega arith in
    drop-cons ss (2 * i) 0 (omega arith) ∙ ap (λ (k : ℕ). start_at ss i ∷ drop k ss) e
    ∙ ap (λ (l : List ℕ). start_at ss i ∷ l) (drop-cons ss (2 * i + 1) 0 (omega arith) ∙ ap (λ (k : ℕ). end_at ss i ∷ drop k ss) f)

no_pair : (p : Padding) (ss : List ℕ) → length ss ≤ 1 → inner_gaps p ss ≡ []
unfolding inner_gaps
no_pair p [] h = refl
no_pair p (s ∷ []) h = refl
no_pair p (s ∷ (e ∷ ss)) h = absurd (omega arith)

-- ---- what holds while code passes gaps

module _ (setting : Gap) (p : Padding) (ss : List ℕ) where
  -- before the first silence nothing is passed
  pub counting_start : (at : ℕ) → Counting setting p ss at (record { silences = 0; removed = 0 })
  counting_start at =
      record {
        within = omega arith;
        balance = omega arith;
        moved = λ (k : ℕ) (h : at ≤ k). (let e : k ≡ k + 0 = omega arith in ap (moved_on (gaps_of setting p ss)) e);
      }

  -- what is passed on the way to a boundary is so on the way to a later one
  pub counting_later : (at at' : ℕ) (passed : Passed) → at ≤ at' → Counting setting p ss at passed → Counting setting p ss at' passed
  counting_later at at' passed h c =
      record { within = c.within; balance = c.balance; moved = λ (k : ℕ) (l : at' ≤ k). c.moved k (omega arith) }

  -- no more frames are passed than are dropped
  pub counting_less : (at : ℕ) (passed : Passed) → Counting setting p ss at passed → passed.removed ≤ dropped (gaps_of setting p ss)
  counting_less at passed c = omega (arith, c.balance)

-- where silence is kept no boundary moves
pub counted_keep : (p : Padding) (ss : List ℕ) (at : ℕ) (passed : Passed) → Counting Keep p ss at passed → Counted Keep p ss at passed
unfolding gaps_of dropped moved_on
counted_keep p ss at passed c = record { counting = c; here = omega (arith, c.balance) }

module _ (p : Padding) (ss : List ℕ) (at i removed : ℕ) (c : Counting Drop p ss at (record { silences = i; removed = removed })) where
  -- no silence is left
  pub counted_all : silence_count ss ≤ i → moved_on (gaps_of Drop p ss) at ≡ at + removed
  unfolding gaps_of moved_on
  counted_all h =
      c.moved at (omega arith)
      ∙ ap (λ (gs : List Cut). moved_on gs (at + removed)) (no_pair p (drop (2 * i) ss) (omega (arith, c.within, h, length-drop (2 * i) ss)))

  -- and with all silences passed the boundary is moved on by what was removed
  pub counted_none : silence_count ss ≤ i → Counted Drop p ss at (record { silences = silence_count ss; removed = removed })
  counted_none h =
      subst (λ (j : ℕ). Counted Drop p ss at (record { silences = j; removed = removed })) (omega (arith, c.within, h))
      (record { counting = c; here = counted_all h })

  module _ (here : i < silence_count ss) (start end : ℕ) (begins : start ≡ start_at ss i) (stops : end ≡ end_at ss i) where
    rest : drop (2 * i) ss ≡ start ∷ (end ∷ drop (2 * (i + 1)) ss)
    rest = rest_at ss i here ∙ sym (λ j. begins j ∷ (stops j ∷ drop (2 * (i + 1)) ss))

    -- the gap of silence i is ahead: the boundary is moved on by what was passed
    pub counted_here : (r : Bool) → r ≡ is_ahead p start end (at + removed) → r ≡ true → moved_on (gaps_of Drop p ss) at ≡ at + removed
    unfolding gaps_of
    counted_here r e t =
        c.moved at (omega arith) ∙ ap (λ (l : List ℕ). moved_on (inner_gaps p l) (at + removed)) rest
        ∙ moved_stays p start end (at + removed) (drop (2 * (i + 1)) ss) (sym e ∙ t)

    -- the frames that its gap drops, those that were passed and those still to come are all that are dropped
    pub counting_width : removed + gap_width p start end + dropped (gaps_of Drop p (drop (2 * (i + 1)) ss)) ≡ dropped (gaps_of Drop p ss)
    unfolding gaps_of
    counting_width = omega (arith, c.balance, ap (λ (l : List ℕ). dropped (inner_gaps p l)) rest, dropped-first p start end (drop (2 * (i + 1)) ss))

    -- it is not ahead: it is passed
    pub counting_next : (r : Bool) → r ≡ is_ahead p start end (at + removed) → r ≡ false → (w : ℕ) → w ≡ gap_width p start end
        → Counting Drop p ss at (record { silences = i + 1; removed = removed + w })
    unfolding gaps_of
    counting_next r e t w q =
        record { within = omega arith; balance = omega (arith, counting_width, q); moved = moved }
      where
        moved : (k : ℕ) → at ≤ k → moved_on (inner_gaps p ss) k ≡ moved_on (inner_gaps p (drop (2 * (i + 1)) ss)) (k + (removed + w))
        moved k h =
            let f : k + removed + gap_width p start end ≡ k + (removed + w) = omega arith in
            c.moved k h ∙ ap (λ (l : List ℕ). moved_on (inner_gaps p l) (k + removed)) rest
            ∙ moved_passes p start end (k + removed) (drop (2 * (i + 1)) ss) (ahead-later p start end (at + removed) (k + removed) (omega arith) (sym e ∙ t))
            ∙ ap (moved_on (inner_gaps p (drop (2 * (i + 1)) ss))) f
