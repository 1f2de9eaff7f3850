-- Of all silences only the first that does not end before a boundary can hold it in its gap.
use Rattle.std.specs.Prelude.{◌≡◌, refl, ◌⊎◌, Bool, false, ◌&&◌, ℕ, ◌≤◌, ◌<◌, not, eqb, ltb}
use Rattle.std.proofs.Common.{sym, ap, subst, ◌∙◌, inl, inr, arith}
use Rattle.std.proofs.Math.Bool.{true}
use mathlib.Core.List.Memᴰ
use mathlib.Core.List.{List, [], ◌∷◌, Memᴰ}
use Rattle.std.proofs.Math.Dec.{leb}
use borrow.Author.Tests.{leb-true, leb-false, le-leb}
use Rattle.base_laws.specs.Tests.{both, lt_or_le, unmet}
use Rattle.plan_settings.specs.declared.config.Gap.TheVariants.{Keep, Drop}
use Rattle.candidate_span.specs.declared.bounds.Bounds.{Bounds}
use Rattle.candidate_span.specs.declared.padding.Padding.{Padding}
use Rattle.candidate_span.specs.Bounds.{low_of, high_of, bounds_of, is_inner}
use Rattle.candidate_span.specs.BoundsLaws.{low-within, high_within}
use Rattle.candidate_span.specs.Listed.{silence_count, start_at, end_at}
use Rattle.candidate_span.specs.ListedLaws.{Listed, listed-own, listed_apart, listed-within}
use Rattle.candidate_span.specs.Gaps.{Cut, is_gap, inner_gaps, gaps_of}
use Rattle.candidate_span.specs.GapsFrom.{GapAt, gap_from, gap_in}
use Rattle.candidate_span.specs.KeptIn.{Outside}
use Rattle.candidate_span.specs.Ending.{FirstEnding}
use Rattle.division.specs.Places.{cut_at}
use Rattle.division.specs.PlacesLaws.{same_ends}
use Rattle.completion_reach.specs.declared.place.HeldCut.{HeldCut}
use Rattle.completion_reach.specs.Place.{holds_boundary, place_at, is_held, held_cut}

-- ---- by cases

holds_parts : (g : Cut) (k : ℕ) → holds_boundary g k ≡ true → (g.left ≤ k) × (k ≤ g.right)
holds_parts g k h = let p = both (leb g.left k) (leb k g.right) h in (leb-true g.left k p.0, leb-true k g.right p.1)

fails_parts : (g : Cut) (k : ℕ) → holds_boundary g k ≡ false → (k < g.left) ⊎ (g.right < k)
fails_parts g k = go (leb g.left k) (leb k g.right) (leb-false g.left k) (leb-false k g.right)
  where
    go : (a b : Bool) → (a ≡ false → k < g.left) → (b ≡ false → g.right < k) → (a && b) ≡ false → (k < g.left) ⊎ (g.right < k)
    go true b f f' e = inr (f' e)
    go false b f f' e = inl (f refl)

-- the gap that holds boundary k, or that none does
pub data Standing (gs : List Cut) (k : ℕ) : Type 0 where
  held : (g : Cut) → Memᴰ g gs → g.left ≤ k → k ≤ g.right → place_at gs k ≡ g → Standing gs k
  free : Outside gs k → place_at gs k ≡ cut_at k → Standing gs k

-- one of the two is so
pub standing : (gs : List Cut) (k : ℕ) → Standing gs k
unfolding place_at
standing [] k = free (λ g m. absurd (Memᴰ.not-nil m)) refl
standing (g ∷ gs) k = go (holds_boundary g k) refl (standing gs k)
  where
    go : (b : Bool) → holds_boundary g k ≡ b → Standing gs k → Standing (g ∷ gs) k
    go true e r = let p = holds_parts g k e in held g (Memᴰ.head refl) p.0 p.1 (rw e)
    go false e (held h m a b q) = held h (Memᴰ.tail m) a b (rw e q)
    go false e (free o q) = free out (rw e q)
      where
        out : Outside (g ∷ gs) k
        out j (Memᴰ.head p) = subst (λ (i : Cut). (k < i.left) ⊎ (i.right < k)) (sym p) (fails_parts g k e)
        out j (Memᴰ.tail m) = o j m

-- ---- whether the gap of one silence holds boundary k

module _ (p : Padding) (start end k : ℕ) where
  -- its tests in the order in which code makes them
  pub held_tests : (b : Bounds) → b ≡ bounds_of p start end
      → is_held p start end k ≡ ((((not (eqb start 0) && not (eqb end p.frames)) && ltb b.lo b.hi) && leb b.lo k) && leb k b.hi)
  unfolding is_held is_gap is_inner
  held_tests b is =
      rw is (go (not (eqb start 0)) (not (eqb end p.frames)) (ltb (low_of p start) (high_of p end)) (leb (low_of p start) k) (leb k (high_of p end)))
    where
      go : (d e f g h : Bool) → (((d && e) && f) && (g && h)) ≡ ((((d && e) && f) && g) && h)
      go true true true g h = refl
      go true true false g h = refl
      go true false f g h = refl
      go false e f g h = refl

-- ---- by the silence that was found

-- g is the gap of silence i
record GapOf (p : Padding) (ss : List ℕ) (i : ℕ) (g : Cut) : Type 0 where
  pub listed : i < silence_count ss
  pub some : is_gap p (start_at ss i) (end_at ss i) ≡ true
  pub low : g.left ≡ low_of p (start_at ss i)
  pub high : g.right ≡ high_of p (end_at ss i)

module _ (p : Padding) (ss : List ℕ) (k i : ℕ) (l : Listed p.frames ss) (e : FirstEnding ss k i) where
  -- a gap that holds k is that of silence i
  only : (g : Cut) → Memᴰ g (inner_gaps p ss) → g.left ≤ k → k ≤ g.right → GapOf p ss i g
  only g m a b = go (gap_from p ss g m)
    where
      go : GapAt p ss g → GapOf p ss i g
      go t = subst (λ (j : ℕ). GapOf p ss j g) same (record { listed = t.listed; some = t.left; low = low; high = high })
        where
          low : g.left ≡ low_of p (start_at ss t.number)
          low = ap (λ (c : Cut). c.left) t.is

          high : g.right ≡ high_of p (end_at ss t.number)
          high = ap (λ (c : Cut). c.right) t.is

          early : t.number < i → ⊥
          early h = omega (arith, b, high, e.before t.number h, high_within p (end_at ss t.number))

          late : i < t.number → ⊥
          late h =
              let own = listed-own l t.number t.listed in
              omega (
                arith,
                a,
                low,
                e.from i (omega arith) (omega (arith, h, t.listed)),
                listed_apart l i t.number h t.listed,
                (low-within p (start_at ss t.number) (omega (arith, own, listed-within l t.number t.listed))).0,
              )

          same : t.number ≡ i
          same = elim (lt_or_le t.number i) [
            | inl h ↦ absurd (early h)
            | inr h ↦ elim (lt_or_le i t.number) [ inl h' ↦ absurd (late h') | inr h' ↦ omega arith ]
          ]

  -- no silence is left
  pub place_none : silence_count ss ≤ i → place_at (gaps_of Drop p ss) k ≡ cut_at k
  unfolding gaps_of
  place_none h = go (standing (inner_gaps p ss) k)
    where
      go : Standing (inner_gaps p ss) k → place_at (inner_gaps p ss) k ≡ cut_at k
      go (held g m a b q) = absurd (omega (arith, h, (only g m a b).listed))
      go (free o q) = q

  -- its gap holds the boundary
  pub place_held : i < silence_count ss → is_held p (start_at ss i) (end_at ss i) k ≡ true
      → place_at (gaps_of Drop p ss) k ≡ record { left = low_of p (start_at ss i); right = high_of p (end_at ss i) }
  unfolding gaps_of is_held
  place_held h t = go (standing (inner_gaps p ss) k)
    where
      gap : Cut
      gap = record { left = low_of p (start_at ss i); right = high_of p (end_at ss i) }

      parts : (is_gap p (start_at ss i) (end_at ss i) ≡ true) × (holds_boundary gap k ≡ true)
      parts = both (is_gap p (start_at ss i) (end_at ss i)) (holds_boundary gap k) t

      go : Standing (inner_gaps p ss) k → place_at (inner_gaps p ss) k ≡ gap
      go (held g m a b q) = let o = only g m a b in q ∙ same_ends g gap o.low o.high
      go (free o q) =
          let inside = holds_parts gap k parts.1 in
          elim (o gap (gap_in p ss i h parts.0)) [ inl a ↦ absurd (omega (arith, a, inside.0)) | inr a ↦ absurd (omega (arith, a, inside.1)) ]

  -- it does not, or there is none
  pub place_unheld : is_held p (start_at ss i) (end_at ss i) k ≡ false → place_at (gaps_of Drop p ss) k ≡ cut_at k
  unfolding gaps_of is_held
  place_unheld t = go (standing (inner_gaps p ss) k)
    where
      yes : (g : Cut) → GapOf p ss i g → g.left ≤ k → k ≤ g.right
          → (is_gap p (start_at ss i) (end_at ss i) && (leb (low_of p (start_at ss i)) k && leb k (high_of p (end_at ss i)))) ≡ true
      yes g o a b =
          rw (o.some, le-leb (low_of p (start_at ss i)) k (omega (arith, a, o.low)), le-leb k (high_of p (end_at ss i)) (omega (arith, b, o.high)))

      go : Standing (inner_gaps p ss) k → place_at (inner_gaps p ss) k ≡ cut_at k
      go (held g m a b q) = unmet (sym t ∙ yes g (only g m a b) a b)
      go (free o q) = q

  -- as code has it: `start` and `end` are those of silence i, b its bounds
  module _ (start end : ℕ) (begins : start ≡ start_at ss i) (stops : end ≡ end_at ss i) (r : Bool) (is : r ≡ is_held p start end k) where
    told : is_held p (start_at ss i) (end_at ss i) k ≡ r
    told = sym (rw (← begins, ← stops) is)

    -- its gap holds the boundary: the cut is the gap
    pub dropped-held : i < silence_count ss → r ≡ true → (b : Bounds) → b ≡ bounds_of p start end
        → ◌≡◌ {A = HeldCut} (record { left = b.lo; right = b.hi }) (held_cut (place_at (gaps_of Drop p ss) k))
    dropped-held h t b e =
        ap lent_of e ∙ ends ∙ ap held_cut (sym (place_held h (told ∙ t)))
      where
        lent_of : Bounds → HeldCut
        lent_of c = record { left = c.lo; right = c.hi }

        ends : lent_of (bounds_of p start end) ≡ held_cut (record { left = low_of p (start_at ss i); right = high_of p (end_at ss i) })
        ends = λ j. record { left = low_of p (begins j); right = high_of p (stops j) }

    -- it does not: the cut is at the boundary
    pub dropped_unheld : r ≡ false → held_cut (cut_at k) ≡ held_cut (place_at (gaps_of Drop p ss) k)
    dropped_unheld t = ap held_cut (sym (place_unheld (told ∙ t)))

-- silence is kept
pub place_keep : (p : Padding) (ss : List ℕ) (k : ℕ) → place_at (gaps_of Keep p ss) k ≡ cut_at k
unfolding gaps_of place_at
place_keep p ss k = refl
