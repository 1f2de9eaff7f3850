-- Whether any division keeps a limit is found by going as far as one can: where that gets stuck, every division has a piece over the limit.
use Rattle.std.specs.Prelude.{refl, ◌⊎◌, ℕ, zero, suc, ◌+◌, ◌≤◌, ◌<◌}
use Rattle.std.proofs.Common.{sym, ap, subst, inl, inr, arith}
use mathlib.Core.List.Memᴰ
use mathlib.Core.List.{List, [], ◌∷◌, Memᴰ}
use Rattle.base_laws.specs.Tests.{lt_or_le}
use Rattle.grid.specs.BoundaryLaws.{Accepted, boundary_mono}
use Rattle.grid.specs.declared.boundary.FrameGrid.{FrameGrid}
use Rattle.candidate_span.specs.Gaps.{Cut, Spread}
use Rattle.candidate_span.specs.GapsLaws.{spread_ends}
use Rattle.candidate_span.specs.Span.{Span}
use Rattle.division.specs.Division.{Place, Row, Division}
use Rattle.division.specs.Pieces.{piece_from, pieces_from, pieces_of, length_of, longest}
use Rattle.division.specs.PiecesLaws.{row_inside}
use Rattle.division.specs.Places.{places_of}
use Rattle.division.specs.PlacesLaws.{place_in, in_place, place_inside, places_divide}
use Rattle.division.specs.Greedy.{Farthest, NoneWithin, GreedyFrom, Greedy}
use Rattle.division.specs.GreedyLaws.{MayBegin, start_first, start_right, keeps-ahead}

-- ---- the farthest place can be found

-- the farthest of a list of cuts, or that none is within the limit
record FarthestIn (g : FrameGrid) (limit a : ℕ) (cs : List Cut) (k : Cut) : Type 0 where
  pub place : Memᴰ k cs
  pub after : a < k.left
  pub within : length_of g (piece_from a k.left) ≤ limit
  pub last : (j : Cut) → Memᴰ j cs → length_of g (piece_from a j.left) ≤ limit → j.left ≤ k.left

abbrev NoneIn : FrameGrid → ℕ → ℕ → List Cut → Type 0
NoneIn g limit a cs = (j : Cut) → Memᴰ j cs → a < j.left → limit < length_of g (piece_from a j.left)

farthest_in : (g : FrameGrid) (limit a b : ℕ) (cs : List Cut) (z : ℕ) → Row b cs z → ((k : Cut) × FarthestIn g limit a cs k) ⊎ NoneIn g limit a cs
farthest_in g limit a b [] z r = inr (λ j m. absurd (Memᴰ.not-nil m))
farthest_in g limit a b (c ∷ cs) z r =
    go (farthest_in g limit a c.right cs z r.2) (lt_or_le a c.left) (lt_or_le limit (length_of g (piece_from a c.left)))
  where
    later : (k : Cut) → FarthestIn g limit a cs k → FarthestIn g limit a (c ∷ cs) k
    later k f = record { place = Memᴰ.tail f.place; after = f.after; within = f.within; last = last }
      where
        last : (j : Cut) → Memᴰ j (c ∷ cs) → length_of g (piece_from a j.left) ≤ limit → j.left ≤ k.left
        last j (Memᴰ.head e) h = omega (arith, ap (λ (i : Cut). i.left) e, r.1, (row_inside c.right cs z k r.2 f.place).0)
        last j (Memᴰ.tail m) h = f.last j m h

    here : NoneIn g limit a cs → a < c.left → length_of g (piece_from a c.left) ≤ limit → FarthestIn g limit a (c ∷ cs) c
    here st l w = record { place = Memᴰ.head refl; after = l; within = w; last = last }
      where
        last : (j : Cut) → Memᴰ j (c ∷ cs) → length_of g (piece_from a j.left) ≤ limit → j.left ≤ c.left
        last j (Memᴰ.head e) h = omega (arith, ap (λ (i : Cut). i.left) e)
        last j (Memᴰ.tail m) h = elim (lt_or_le a j.left) [ inl t ↦ absurd (omega (arith, h, st j m t)) | inr t ↦ omega (arith, l) ]

    nowhere : NoneIn g limit a cs → (a < c.left → limit < length_of g (piece_from a c.left)) → NoneIn g limit a (c ∷ cs)
    nowhere st n j (Memᴰ.head e) h =
        subst (λ (i : Cut). limit < length_of g (piece_from a i.left)) (sym e) (n (subst (λ (i : Cut). a < i.left) e h))
    nowhere st n j (Memᴰ.tail m) h = st j m h

    go : ((k : Cut) × FarthestIn g limit a cs k) ⊎ NoneIn g limit a cs → (a < c.left) ⊎ (c.left ≤ a)
        → (limit < length_of g (piece_from a c.left)) ⊎ (length_of g (piece_from a c.left) ≤ limit)
        → ((k : Cut) × FarthestIn g limit a (c ∷ cs) k) ⊎ NoneIn g limit a (c ∷ cs)
    go (inl f) p q = inl (f.0, later f.0 f.1)
    go (inr st) (inl l) (inr w) = inl (c, here st l w)
    go (inr st) (inl l) (inl w) = inr (nowhere st (λ t. w))
    go (inr st) (inr l) q = inr (nowhere st (λ t. absurd (omega arith)))

-- ---- where no way leads on, every division has a piece over the limit

-- all cuts at places that start at or before a leave a piece over the limit
abbrev NoneFrom : FrameGrid → Span → ℕ → ℕ → Type 0
NoneFrom g s limit a = (b : ℕ) (ks : List Cut) → b ≤ a → ((k : Cut) → Memᴰ k ks → Place s k) → limit < longest g (pieces_from b ks s.last)

module _ (g : FrameGrid) (ok : Accepted g) (s : Span) (spread : Spread s.first s.gaps s.last) where
  farthest_found : (limit a : ℕ) → ((k : Cut) × Farthest g s limit a k) ⊎ NoneWithin g s limit a
  farthest_found limit a = go (farthest_in g limit a s.first (places_of s) s.last (places_divide s spread).rises)
    where
      go : ((k : Cut) × FarthestIn g limit a (places_of s) k) ⊎ NoneIn g limit a (places_of s) → ((k : Cut) × Farthest g s limit a k) ⊎ NoneWithin g s limit a
      go (inl f) =
          inl (
            f.0,
            record {
              place = in_place s spread f.0 f.1.place;
              after = f.1.after;
              within = f.1.within;
              last = λ j p h. f.1.last j (place_in s spread j p) h;
            },
          )
      go (inr st) = inr (λ j p h. st j (place_in s spread j p) h)

  none-step : (limit a : ℕ) (p : Cut) → MayBegin s a → limit < length_of g (piece_from a s.last) → Farthest g s limit a p → NoneFrom g s limit p.right → NoneFrom g s limit a
  none-step limit a p start more far n b [] h placed = omega (arith, more, boundary_mono g ok b a h)
  none-step limit a p start more far n b (k ∷ ks) h placed = elim (lt_or_le limit (length_of g (piece_from b k.left))) [
    | inl l ↦ omega (arith, l)
    | inr l ↦
        let o = keeps-ahead g ok s spread limit a b p k h start far (placed k (Memᴰ.head refl)) l in
        omega (arith, n k.right ks o.1 (λ i m. placed i (Memᴰ.tail m)))
  ]

  none_stuck : (limit a : ℕ) → MayBegin s a → limit < length_of g (piece_from a s.last) → NoneWithin g s limit a → NoneFrom g s limit a
  none_stuck limit a start more st b [] h placed = omega (arith, more, boundary_mono g ok b a h)
  none_stuck limit a start more st b (k ∷ ks) h placed = elim (lt_or_le a k.left) [
    | inl l ↦ omega (arith, st k (placed k (Memᴰ.head refl)) l, boundary_mono g ok b a h)
    | inr l ↦
        omega (
          arith,
          none_stuck limit a start more st k.right ks (start k (placed k (Memᴰ.head refl)) l) (λ i m. placed i (Memᴰ.tail m)),
        )
  ]

  -- `fuel` boundaries at most are left
  found_from : (limit fuel a : ℕ) → s.last ≤ a + fuel → a < s.last → MayBegin s a → ((ks : List Cut) × GreedyFrom g s limit a ks) ⊎ NoneFrom g s limit a
  found_from limit zero a h l start = absurd (omega (arith, h, l))
  found_from limit (suc fuel) a h l start =
      go (lt_or_le limit (length_of g (piece_from a s.last))) (farthest_found limit a) (λ b i j k. found_from limit fuel b i j k)
    where
      go : (limit < length_of g (piece_from a s.last)) ⊎ (length_of g (piece_from a s.last) ≤ limit) → ((k : Cut) × Farthest g s limit a k) ⊎ NoneWithin g s limit a
          → ((b : ℕ) → s.last ≤ b + fuel → b < s.last → MayBegin s b → ((ks : List Cut) × GreedyFrom g s limit b ks) ⊎ NoneFrom g s limit b)
          → ((ks : List Cut) × GreedyFrom g s limit a ks) ⊎ NoneFrom g s limit a
      go (inr w) f rest = inl ([], w)
      go (inl more) (inr st) rest = inr (none_stuck limit a start more st)
      go (inl more) (inl (k, far)) rest =
          let i = place_inside s spread k far.place in
          elim (rest k.right (omega (arith, h, far.after, i.1)) i.2 (start_right g ok s spread k far.place)) [
            | inl t ↦ inl (k ∷ t.0, (more, far, t.1))
            | inr n ↦ inr (none-step limit a k start more far n)
          ]

  -- the greedy division of a limit, or no division keeps it
  pub greedy_found : (limit : ℕ) → ((ks : List Cut) × Greedy g s limit ks) ⊎ ((ks : List Cut) → Division s ks → limit < longest g (pieces_of s ks))
  greedy_found limit =
      elim (found_from limit s.last s.first (omega arith) (spread_ends s.first s.gaps s.last spread) (start_first g ok s spread)) [
        | inl t ↦ inl t
        | inr n ↦ inr (λ ks d. n s.first ks (omega arith) d.placed)
      ]
