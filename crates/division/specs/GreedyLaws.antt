-- Both ends of places are in order, so a piece that starts no earlier may end no earlier: what goes as far as it can at each step stays ahead, and takes the fewest pieces.
use Rattle.std.specs.Prelude.{◌≡◌, refl, ℕ, ◌≤◌, ◌<◌, length}
use Rattle.std.proofs.Common.{sym, ap, subst, inl, inr, arith}
use mathlib.Core.List.Memᴰ
use mathlib.Core.List.{List, [], ◌∷◌, Memᴰ}
use Rattle.base_laws.specs.Tests.{lt_or_le}
use Rattle.grid.specs.BoundaryLaws.{Accepted, boundary_mono}
use Rattle.grid.specs.declared.boundary.FrameGrid.{FrameGrid}
use Rattle.candidate_span.specs.Gaps.{Cut, Spread}
use Rattle.candidate_span.specs.GapsLaws.{spread_ends}
use Rattle.candidate_span.specs.Span.{Span}
use Rattle.division.specs.Division.{Place, Row, Division}
use Rattle.division.specs.Pieces.{piece_from, pieces_from, pieces_of, length_of, longest}
use Rattle.division.specs.PiecesLaws.{pieces_count}
use Rattle.division.specs.PlacesLaws.{place_inside, places_apart}
use Rattle.division.specs.Greedy.{Farthest, GreedyFrom, Greedy, NowhereBehind}

-- ---- what being nowhere behind says of the pieces

pub behind_fewer : (s : Span) (js ks : List Cut) → NowhereBehind js ks → length (pieces_of s js) ≤ length (pieces_of s ks)
behind_fewer s js ks b = omega (arith, pieces_count s.first js s.last, pieces_count s.first ks s.last, cuts js ks b)
  where
    cuts : (is ls : List Cut) → NowhereBehind is ls → length is ≤ length ls
    cuts [] ls c = omega arith
    cuts (i ∷ is) [] c = absurd c
    cuts (i ∷ is) (l ∷ ls) c = omega (arith, cuts is ls c.2)

-- ---- one step

-- a piece may start at a: no place reaches over it
abbrev pub MayBegin : Span → ℕ → Type 0
MayBegin s a = (k : Cut) → Place s k → k.left ≤ a → k.right ≤ a

module _ (g : FrameGrid) (ok : Accepted g) (s : Span) (spread : Spread s.first s.gaps s.last) where
  -- a place that does not start behind another's end has both its ends no farther on
  pub ends_order : (j k : Cut) → Place s j → Place s k → j.left ≤ k.right → (j.left ≤ k.left) × (j.right ≤ k.right)
  ends_order j k p q h = elim (places_apart s spread j k p q h) [
    | inl l ↦ (omega (arith, (place_inside s spread j p).1), omega (arith, (place_inside s spread k q).1))
    | inr e ↦ (omega (arith, ap (λ (i : Cut). i.left) e), omega (arith, ap (λ (i : Cut). i.right) e))
  ]

  -- a piece may start with the span
  pub start_first : MayBegin s s.first
  start_first k p h = absurd (omega (arith, (place_inside s spread k p).0))

  -- and at the right end of each place
  pub start_right : (k : Cut) → Place s k → MayBegin s k.right
  start_right k p j q h = (ends_order j k q p h).1

  -- from an earlier start no piece within the limit ends farther on
  pub keeps-ahead : (limit a b : ℕ) (p k : Cut) → b ≤ a → MayBegin s a → Farthest g s limit a p → Place s k → length_of g (piece_from b k.left) ≤ limit
      → (k.left ≤ p.left) × (k.right ≤ p.right)
  keeps-ahead limit a b p k h start far q short = elim (lt_or_le a k.left) [
    | inl l ↦
        let f : k.left ≤ p.left = far.last k q (omega (arith, boundary_mono g ok b a h)) in
        (f, (ends_order k p q far.place (omega (arith, f, (place_inside s spread p far.place).1))).1)
    | inr l ↦ (omega (arith, far.after), omega (arith, start k q l, far.after, (place_inside s spread p far.place).1))
  ]

  -- ---- it is a division, within the limit, and the only one of its kind

  greedy_row : (limit a : ℕ) (ks : List Cut) → a < s.last → GreedyFrom g s limit a ks → Row a ks s.last
  greedy_row limit a [] h far = h
  greedy_row limit a (k ∷ ks) h far =
      let i = place_inside s spread k far.1.place in
      (far.1.after, i.1, greedy_row limit k.right ks i.2 far.2)

  greedy_placed : (limit a : ℕ) (ks : List Cut) → GreedyFrom g s limit a ks → (k : Cut) → Memᴰ k ks → Place s k
  greedy_placed limit a [] far k m = absurd (Memᴰ.not-nil m)
  greedy_placed limit a (j ∷ ks) far k (Memᴰ.head e) = subst (Place s) (sym e) far.1.place
  greedy_placed limit a (j ∷ ks) far k (Memᴰ.tail m) = greedy_placed limit j.right ks far.2 k m

  pub greedy_divides : (limit : ℕ) (ks : List Cut) → Greedy g s limit ks → Division s ks
  greedy_divides limit ks far =
      record {
        rises = greedy_row limit s.first ks (spread_ends s.first s.gaps s.last spread) far;
        placed = greedy_placed limit s.first ks far;
      }

  within-from : (limit a : ℕ) (ks : List Cut) → GreedyFrom g s limit a ks → longest g (pieces_from a ks s.last) ≤ limit
  within-from limit a [] far = omega (arith, far)
  within-from limit a (k ∷ ks) far = omega (arith, far.1.within, within-from limit k.right ks far.2)

  pub greedy_within : (limit : ℕ) (ks : List Cut) → Greedy g s limit ks → longest g (pieces_of s ks) ≤ limit
  greedy_within limit ks far = within-from limit s.first ks far

  pub farthest_one : (limit a : ℕ) (j k : Cut) → Farthest g s limit a j → Farthest g s limit a k → j ≡ k
  farthest_one limit a j k f e =
      elim (places_apart s spread j k f.place e.place (omega (arith, e.last j f.place f.within, (place_inside s spread k e.place).1))) [
        | inl l ↦ absurd (omega (arith, l, f.last k e.place e.within, (place_inside s spread j f.place).1))
        | inr q ↦ q
      ]

  one_from : (limit a : ℕ) (js ks : List Cut) → GreedyFrom g s limit a js → GreedyFrom g s limit a ks → js ≡ ks
  one_from limit a [] [] f e = refl
  one_from limit a [] (k ∷ ks) f e = absurd (omega (arith, f, e.0))
  one_from limit a (j ∷ js) [] f e = absurd (omega (arith, e, f.0))
  one_from limit a (j ∷ js) (k ∷ ks) f e =
      let q = farthest_one limit a j k f.1 e.1 in
      let t = one_from limit k.right js ks (subst (λ (i : Cut). GreedyFrom g s limit i.right js) q f.2) e.2 in
      cc

  pub greedy_one : (limit : ℕ) (js ks : List Cut) → Greedy g s limit js → Greedy g s limit ks → js ≡ ks
  greedy_one limit js ks f e = one_from limit s.first js ks f e
