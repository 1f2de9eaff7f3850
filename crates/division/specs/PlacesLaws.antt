-- Gaps lie strictly inside the span with a frame at least between them. So all places in order are a division, of which every piece is a single frame;
-- it has a piece for each kept frame, and since every division chooses its cuts from it, none has more.
use Rattle.std.specs.Prelude.{◌≡◌, refl, ◌⊎◌, ℕ, zero, suc, ◌+◌, ◌-◌, ◌≤◌, ◌<◌, length}
use Rattle.std.proofs.Common.{sym, ap, subst, ◌∙◌, inl, inr, arith}
use mathlib.Core.List.Memᴰ
use mathlib.Core.List.{List, [], ◌∷◌, Memᴰ}
use Rattle.base_laws.specs.Tests.{lt_or_le}
use Rattle.candidate_span.specs.Gaps.{Cut, dropped, Spread}
use Rattle.candidate_span.specs.GapsLaws.{spread_ends, spread_inside}
use Rattle.candidate_span.specs.Kept.{kept_frames}
use Rattle.candidate_span.specs.KeptLaws.{dropped_less}
use Rattle.candidate_span.specs.KeptIn.{Outside, kept_in_lem, kept_of}
use Rattle.candidate_span.specs.Span.{Span}
use Rattle.division.specs.Division.{kept_in, Place, boundary, gap, Row, Division}
use Rattle.division.specs.Pieces.{Piece, pieces_from, pieces_of, IsSingle}
use Rattle.division.specs.PiecesLaws.{row_from, row_inside, pieces_count}
use Rattle.division.specs.RefineLaws.{fewer_cuts}
use Rattle.division.specs.Places.{cut_at, points, places_from, places_of}

-- ---- boundaries, and then ks

points_row : (a n : ℕ) (ks : List Cut) (z : ℕ) → Row (a + n) ks z → Row a (points a n ks) z
points_row a zero ks z r = row_from a (a + zero) ks z (omega arith) r
points_row a (suc n) ks z r = (omega arith, omega arith, points_row (suc a) n ks z (row_from (suc a + n) (a + suc n) ks z (omega arith) r))

points-length : (a n : ℕ) (ks : List Cut) → length (points a n ks) ≡ n + length ks
points-length a zero ks = omega arith
points-length a (suc n) ks = omega (arith, points-length (suc a) n ks)

-- every piece of a row is a single frame
abbrev Singles : ℕ → List Cut → ℕ → Type 0
Singles a ks z = (p : Piece) → Memᴰ p (pieces_from a ks z) → IsSingle p

-- one more piece, and then those of ks
single_more : (a : ℕ) (k : Cut) (ks : List Cut) (z : ℕ) → k.left ≡ suc a → Singles k.right ks z → Singles a (k ∷ ks) z
single_more a k ks z h f p (Memᴰ.head e) = ap (λ (q : Piece). q.end) e ∙ h ∙ sym (ap (λ (q : Piece). suc q.start) e)
single_more a k ks z h f p (Memᴰ.tail m) = f p m

points_single : (a n b : ℕ) (ks : List Cut) (z : ℕ) → b ≡ a + n → Singles b ks z → Singles a (points a n ks) z
points_single a zero b ks z h f =
    let e : b ≡ a = omega arith in
    subst (λ (c : ℕ). Singles c ks z) e f
points_single a (suc n) b ks z h f = single_more a (cut_at (suc a)) (points (suc a) n ks) z refl (points_single (suc a) n b ks z (omega arith) f)

-- cuts with the same ends are one
pub same_ends : (j k : Cut) → j.left ≡ k.left → j.right ≡ k.right → j ≡ k
same_ends j k p q = λ i. record { left = p i; right = q i }

in_points : (a n : ℕ) (ks : List Cut) (k : Cut) → k.left ≡ k.right → a < k.left → k.left ≤ a + n → Memᴰ k (points a n ks)
in_points a zero ks k e h l = absurd (omega arith)
in_points a (suc n) ks k e h l = elim (lt_or_le (suc a) k.left) [
  | inl q ↦ Memᴰ.tail (in_points (suc a) n ks k e q (omega arith))
  | inr q ↦ Memᴰ.head (same_ends k (cut_at (suc a)) (omega arith) (omega arith))
]

after-points : (a n : ℕ) (ks : List Cut) (k : Cut) → Memᴰ k ks → Memᴰ k (points a n ks)
after-points a zero ks k m = m
after-points a (suc n) ks k m = Memᴰ.tail (after-points (suc a) n ks k m)

of_points : (a n : ℕ) (ks : List Cut) (k : Cut) → Memᴰ k (points a n ks) → ((k.left ≡ k.right) × (a < k.left) × (k.left ≤ a + n)) ⊎ Memᴰ k ks
of_points a zero ks k m = inr m
of_points a (suc n) ks k (Memᴰ.head e) =
    let l = ap (λ (j : Cut). j.left) e in
    let r = ap (λ (j : Cut). j.right) e in
    inl (omega arith, omega arith, omega arith)
of_points a (suc n) ks k (Memᴰ.tail m) = elim (of_points (suc a) n ks k m) [
  | inl i ↦ inl (i.0, omega (arith, i.1), omega (arith, i.2))
  | inr i ↦ inr i
]

-- ---- the places of a span, gap by gap

places_row : (a : ℕ) (gs : List Cut) (z : ℕ) → Spread a gs z → Row a (places_from a gs z) z
places_row a [] z s = points_row a (z - suc a) [] z (omega (arith, s))
places_row a (g ∷ gs) z s =
    points_row a (g.left - suc a) (g ∷ places_from g.right gs z) z (omega (arith, s.0), omega (arith, s.1), places_row g.right gs z s.2)

places_length : (a : ℕ) (gs : List Cut) (z : ℕ) → Spread a gs z → suc (length (places_from a gs z)) ≡ kept_frames a gs z
unfolding kept_frames dropped
places_length a [] z s = omega (arith, s, points-length a (z - suc a) [])
places_length a (g ∷ gs) z s =
    omega (
      arith,
      s.0,
      s.1,
      points-length a (g.left - suc a) (g ∷ places_from g.right gs z),
      places_length g.right gs z s.2,
      dropped_less g.right gs z s.2,
    )

last_single : (a z : ℕ) → z ≡ suc a → Singles a [] z
last_single a z h p (Memᴰ.head e) = ap (λ (q : Piece). q.end) e ∙ h ∙ sym (ap (λ (q : Piece). suc q.start) e)
last_single a z h p (Memᴰ.tail m) = absurd (Memᴰ.not-nil m)

places_singles : (a : ℕ) (gs : List Cut) (z : ℕ) → Spread a gs z → Singles a (places_from a gs z) z
places_singles a [] z s = points_single a (z - suc a) (z - 1) [] z (omega (arith, s)) (last_single (z - 1) z (omega (arith, s)))
places_singles a (g ∷ gs) z s =
    points_single a (g.left - suc a) (g.left - 1) (g ∷ places_from g.right gs z) z (omega (arith, s.0))
    (single_more (g.left - 1) g (places_from g.right gs z) z (omega (arith, s.0)) (places_singles g.right gs z s.2))

-- a boundary strictly inside the span and in no gap
record Inner (a : ℕ) (gs : List Cut) (z : ℕ) (k : Cut) : Type 0 where
  pub point : k.left ≡ k.right
  pub after : a < k.left
  pub before : k.left < z
  pub outside : Outside gs k.left

inner_in : (a : ℕ) (gs : List Cut) (z : ℕ) (k : Cut) → Inner a gs z k → Memᴰ k (places_from a gs z)
inner_in a [] z k i = in_points a (z - suc a) [] k i.point i.after (omega (arith, i.before))
inner_in a (g ∷ gs) z k i = elim (i.outside g (Memᴰ.head refl)) [
  | inl l ↦ in_points a (g.left - suc a) (g ∷ places_from g.right gs z) k i.point i.after (omega (arith, i.after))
  | inr l ↦
      let rest : Inner g.right gs z k =
      record { point = i.point; after = l; before = i.before; outside = λ j m. i.outside j (Memᴰ.tail m) } in
      after-points a (g.left - suc a) (g ∷ places_from g.right gs z) k (Memᴰ.tail (inner_in g.right gs z k rest))
]

gap_in : (a : ℕ) (gs : List Cut) (z : ℕ) (k : Cut) → Memᴰ k gs → Memᴰ k (places_from a gs z)
gap_in a [] z k m = absurd (Memᴰ.not-nil m)
gap_in a (g ∷ gs) z k (Memᴰ.head e) = after-points a (g.left - suc a) (g ∷ places_from g.right gs z) k (Memᴰ.head e)
gap_in a (g ∷ gs) z k (Memᴰ.tail m) = after-points a (g.left - suc a) (g ∷ places_from g.right gs z) k (Memᴰ.tail (gap_in g.right gs z k m))

of_places : (a : ℕ) (gs : List Cut) (z : ℕ) (k : Cut) → Spread a gs z → Memᴰ k (places_from a gs z) → Inner a gs z k ⊎ Memᴰ k gs
of_places a [] z k s m = go (of_points a (z - suc a) [] k m)
  where
    go : ((k.left ≡ k.right) × (a < k.left) × (k.left ≤ a + (z - suc a))) ⊎ Memᴰ k [] → Inner a [] z k ⊎ Memᴰ k []
    go (inl i) = inl (record { point = i.0; after = i.1; before = omega (arith, i.2, s); outside = λ j q. absurd (Memᴰ.not-nil q) })
    go (inr i) = inr i
of_places a (g ∷ gs) z k s m = go (of_points a (g.left - suc a) (g ∷ places_from g.right gs z) k m) (of_places g.right gs z k s.2)
  where
    early : (k.left ≡ k.right) × (a < k.left) × (k.left ≤ a + (g.left - suc a)) → Inner a (g ∷ gs) z k
    early i =
        record {
          point = i.0;
          after = i.1;
          before = omega (arith, i.2, s.0, s.1, spread_ends g.right gs z s.2);
          outside = out;
        }
      where
        out : Outside (g ∷ gs) k.left
        out j (Memᴰ.head e) = inl (omega (arith, i.2, s.0, ap (λ (t : Cut). t.left) e))
        out j (Memᴰ.tail t) = inl (omega (arith, i.2, s.0, s.1, (spread_inside g.right gs z j s.2 t).0))

    late : Inner g.right gs z k → Inner a (g ∷ gs) z k
    late i = record { point = i.point; after = omega (arith, i.after, s.0, s.1); before = i.before; outside = out }
      where
        out : Outside (g ∷ gs) k.left
        out j (Memᴰ.head e) = inr (subst (λ (t : Cut). t.right < k.left) (sym e) i.after)
        out j (Memᴰ.tail t) = i.outside j t

    go : ((k.left ≡ k.right) × (a < k.left) × (k.left ≤ a + (g.left - suc a))) ⊎ Memᴰ k (g ∷ places_from g.right gs z)
        → (Memᴰ k (places_from g.right gs z) → Inner g.right gs z k ⊎ Memᴰ k gs) → Inner a (g ∷ gs) z k ⊎ Memᴰ k (g ∷ gs)
    go (inl i) f = inl (early i)
    go (inr (Memᴰ.head e)) f = inr (Memᴰ.head e)
    go (inr (Memᴰ.tail t)) f = elim (f t) [ inl i ↦ inl (late i) | inr i ↦ inr (Memᴰ.tail i) ]

-- ---- two cuts of a row are one, or lie apart

pub row_apart : (a : ℕ) (cs : List Cut) (z : ℕ) → Row a cs z → (j k : Cut) → Memᴰ j cs → Memᴰ k cs → j.left ≤ k.right → (j.right < k.left) ⊎ (j ≡ k)
row_apart a [] z r j k m n h = elim m [ ]
row_apart a (c ∷ cs) z r j k (Memᴰ.head p) (Memᴰ.head q) h = inr (p ∙ sym q)
row_apart a (c ∷ cs) z r j k (Memᴰ.head p) (Memᴰ.tail n) h =
    inl (omega (arith, ap (λ (i : Cut). i.right) p, (row_inside c.right cs z k r.2 n).0))
row_apart a (c ∷ cs) z r j k (Memᴰ.tail m) (Memᴰ.head q) h =
    absurd (omega (arith, h, ap (λ (i : Cut). i.right) q, (row_inside c.right cs z j r.2 m).0))
row_apart a (c ∷ cs) z r j k (Memᴰ.tail m) (Memᴰ.tail n) h = row_apart c.right cs z r.2 j k m n h

-- ---- all places in order

module _ (s : Span) (spread : Spread s.first s.gaps s.last) where
  -- every place is in the list
  pub place_in : (k : Cut) → Place s k → Memᴰ k (places_of s)
  place_in k (boundary e m) =
      let i = kept_of s.first s.gaps s.last k.left m in
      inner_in s.first s.gaps s.last k (record { point = e; after = i.0; before = i.1; outside = i.2 })
  place_in k (gap m) = gap_in s.first s.gaps s.last k m

  -- and every cut of the list is a place
  pub in_place : (k : Cut) → Memᴰ k (places_of s) → Place s k
  in_place k m = elim (of_places s.first s.gaps s.last k spread m) [
    | inl i ↦ boundary i.point (kept_in_lem s.first s.gaps s.last k.left i.after i.before i.outside)
    | inr i ↦ gap i
  ]

  -- a place lies strictly inside the span
  pub place_inside : (k : Cut) → Place s k → (s.first < k.left) × (k.left ≤ k.right) × (k.right < s.last)
  place_inside k p = row_inside s.first (places_of s) s.last k (places_row s.first s.gaps s.last spread) (place_in k p)

  -- two places are one, or lie apart
  pub places_apart : (j k : Cut) → Place s j → Place s k → j.left ≤ k.right → (j.right < k.left) ⊎ (j ≡ k)
  places_apart j k p q h = row_apart s.first (places_of s) s.last (places_row s.first s.gaps s.last spread) j k (place_in j p) (place_in k q) h

  -- all places in order are a division
  pub places_divide : Division s (places_of s)
  places_divide = record { rises = places_row s.first s.gaps s.last spread; placed = in_place }

  -- which has a piece for each kept frame
  pub places_count : length (pieces_of s (places_of s)) ≡ kept_in s
  places_count = pieces_count s.first (places_of s) s.last ∙ places_length s.first s.gaps s.last spread

  -- each a single frame
  pub places_single : (p : Piece) → Memᴰ p (pieces_of s (places_of s)) → IsSingle p
  places_single = places_singles s.first s.gaps s.last spread

  -- no division has more
  pub at_most_kept : (cuts : List Cut) → Division s cuts → length (pieces_of s cuts) ≤ kept_in s
  at_most_kept cuts d = subst (λ (n : ℕ). length (pieces_of s cuts) ≤ n) places_count (fewer_cuts s cuts (places_of s) d places_divide (λ k m. place_in k (d.placed k m)))
