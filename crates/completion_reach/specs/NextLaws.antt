-- The last boundary within the limit is at or behind no place within it; where a gap holds that boundary, the gap is the farthest place, and else the boundary is.
use Rattle.std.specs.Prelude.{◌≡◌, refl, Bool, true, false, cond, ℕ, ◌-◌, ◌≤◌, ◌<◌, eqb}
use Rattle.std.proofs.Common.{sym, ap, subst, arith}
use Rattle.std.proofs.Math.Logic.{inl, inr}
use borrow.Author.Tests.{eqb-true, eqb-false, eq-eqb, ne_eqb}
use Rattle.base_laws.specs.Tests.{lt_or_le}
use Rattle.grid.specs.BoundaryLaws.{Accepted, boundary_mono}
use Rattle.grid.specs.declared.boundary.FrameGrid.{FrameGrid}
use Rattle.candidate_span.specs.Gaps.{Cut, Spread}
use Rattle.candidate_span.specs.KeptIn.{kept_in_lem}
use Rattle.candidate_span.specs.Span.{Span}
use Rattle.division.specs.Division.{Place, boundary, gap}
use Rattle.division.specs.Pieces.{piece_from, length_of}
use Rattle.division.specs.PlacesLaws.{place_inside}
use Rattle.division.specs.Greedy.{Farthest, NoneWithin}
use Rattle.division.specs.GreedyLaws.{MayBegin, ends_order}
use Rattle.completion_reach.specs.declared.next.Next.{Next}
use Rattle.completion_reach.specs.declared.next.Next.TheVariants.{Whole, Stuck, To}
use Rattle.completion_reach.specs.Reachable.{reachable_of}
use Rattle.completion_reach.specs.ReachableLaws.{Reached, reached}
use Rattle.completion_reach.specs.declared.place.HeldCut.{HeldCut}
use Rattle.completion_reach.specs.Place.{place_at, held_cut, cut_held}
use Rattle.completion_reach.specs.PlaceLaws.{Standing, held, free, standing}
use Rattle.completion_reach.specs.Next.{to_cut, next_at, next_cut_of}

-- ---- one law for each end of the function, where a piece from boundary a reaches boundary k

module _ (g : FrameGrid) (s : Span) (limit a k : ℕ) (is : k ≡ reachable_of g limit a s.last) where
  pub next_whole : k ≡ s.last → Whole ≡ next_cut_of g s limit a
  unfolding next_at
  next_whole e = rw (← is, eq-eqb k s.last e)

  pub next_stuck : (k ≡ s.last → ⊥) → k ≡ a → Stuck ≡ next_cut_of g s limit a
  unfolding next_at
  next_stuck d e = rw (← is, ne_eqb k s.last d, eq-eqb k a e)

  pub next_to : (k ≡ s.last → ⊥) → (k ≡ a → ⊥) → (c : HeldCut) → c ≡ held_cut (place_at s.gaps k) → To c ≡ next_cut_of g s limit a
  unfolding next_at
  next_to d d' c e = rw (← is, ne_eqb k s.last d, ne_eqb k a d') (ap (λ (t : HeldCut). To t) e)

-- ---- what the step is

-- what a step from boundary a says
abbrev pub Stepped : FrameGrid → Span → ℕ → ℕ → Next → Type 0
Stepped g s limit a Whole = length_of g (piece_from a s.last) ≤ limit
Stepped g s limit a Stuck = (limit < length_of g (piece_from a s.last)) × NoneWithin g s limit a
Stepped g s limit a (To c) = (limit < length_of g (piece_from a s.last)) × Farthest g s limit a (cut_held c)

module _ (g : FrameGrid) (ok : Accepted g) (s : Span) (spread : Spread s.first s.gaps s.last) (limit a k : ℕ)
    (from : s.first ≤ a) (to : a < s.last) (start : MayBegin s a) (r : Reached g limit a (s.last - a) k) where
  -- no place within the limit is farther on than boundary k
  not_beyond : (j : Cut) → Place s j → length_of g (piece_from a j.left) ≤ limit → j.left ≤ k
  not_beyond j p w = elim (lt_or_le k j.left) [
    | inl h ↦
        let i = place_inside s spread j p in
        absurd (omega (arith, w, r.beyond j.left h (omega (arith, i.1, i.2))))
    | inr h ↦ h
  ]

  short : (k ≡ s.last → ⊥) → k < s.last
  short d = elim (lt_or_le k s.last) [ inl h ↦ h | inr h ↦ absurd (d (omega (arith, h, r.high, to))) ]

  over : (k ≡ s.last → ⊥) → limit < length_of g (piece_from a s.last)
  over d = r.beyond s.last (short d) (omega (arith, to))

  none_within : k ≡ a → NoneWithin g s limit a
  none_within e j p h = let i = place_inside s spread j p in r.beyond j.left (omega (arith, h, e)) (omega (arith, i.1, i.2))

  farthest : a < k → k < s.last → Standing s.gaps k → Farthest g s limit a (place_at s.gaps k)
  farthest h l (free o q) =
      subst (Farthest g s limit a) (sym q)
      (record { place = boundary refl (kept_in_lem s.first s.gaps s.last k (omega (arith, from, h)) l o); after = h; within = r.within; last = not_beyond })
  farthest h l (held c m b b' q) =
      subst (Farthest g s limit a) (sym q)
      (record {
        place = gap m;
        after = after;
        within = omega (arith, r.within, boundary_mono g ok c.left k b);
        last = λ (j : Cut) (p : Place s j) (w : length_of g (piece_from a j.left) ≤ limit). (ends_order g ok s spread j c p (gap m) (omega (arith, not_beyond j p w, b'))).0;
      })
    where
      after : a < c.left
      after = elim (lt_or_le a c.left) [ inl d ↦ d | inr d ↦ absurd (omega (arith, h, b', start c (gap m) d)) ]

  stepped : Stepped g s limit a (next_at s a k)
  unfolding next_at
  stepped = go (eqb k s.last) (eqb k a) (eqb-true k s.last) (eqb-false k s.last) (eqb-true k a) (eqb-false k a)
    where
      moved : (k ≡ a → ⊥) → a < k
      moved d = elim (lt_or_le a k) [ inl h ↦ h | inr h ↦ absurd (d (omega (arith, h, r.low))) ]

      go : (b c : Bool) → (b ≡ true → k ≡ s.last) → (b ≡ false → k ≡ s.last → ⊥) → (c ≡ true → k ≡ a) → (c ≡ false → k ≡ a → ⊥)
          → Stepped g s limit a (cond b Whole (cond c Stuck (to_cut (place_at s.gaps k))))
      go true c f f' e e' = subst (λ (j : ℕ). length_of g (piece_from a j) ≤ limit) (f refl) r.within
      go false true f f' e e' = (over (f' refl), none_within (e refl))
      go false false f f' e e' = (over (f' refl), farthest (moved (e' refl)) (short (f' refl)) (standing s.gaps k))

-- the step leads to the farthest place or to the end, or no place is within the limit
pub next_stepped : (g : FrameGrid) → Accepted g → (s : Span) → Spread s.first s.gaps s.last → (limit a : ℕ) → s.first ≤ a → a < s.last → MayBegin s a
    → Stepped g s limit a (next_cut_of g s limit a)
next_stepped g ok s spread limit a from to start =
    stepped g ok s spread limit a (reachable_of g limit a s.last) from to start (reached g limit a (s.last - a))
