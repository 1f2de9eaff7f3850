-- Every dropped gap is a candidate, so what lies between neighbours is kept: with the points that are added the candidates are a division, whose pieces are within the limit or single frames.
use Rattle.std.specs.Prelude.{◌≡◌, refl, ◌⊎◌, Bool, true, false, cond, ℕ, zero, suc, ◌-◌, ◌≤◌, ◌<◌, ltb, eqb}
use Rattle.std.proofs.Common.{sym, ap, subst, ◌∙◌, inl, inr, arith}
use mathlib.Core.List.Memᴰ
use mathlib.Core.List.{List, [], ◌∷◌, ◌++◌, Memᴰ}
use Rattle.grid.specs.declared.boundary.FrameGrid.{FrameGrid}
use Rattle.candidate_span.specs.Gaps.{Cut}
use Rattle.candidate_span.specs.KeptIn.{Outside, kept_in_lem}
use Rattle.candidate_span.specs.Span.{Span}
use Rattle.division.specs.Division.{Place, boundary, Row, Division, Among}
use Rattle.division.specs.Pieces.{Piece, pieces_from, pieces_of, IsSingle, length_of}
use Rattle.division.specs.PiecesLaws.{row_ends, row_inside}
use Rattle.division.specs.Places.{cut_at}
use Rattle.completion.specs.Bridge.{on_to, bridge_from, bridge_of}
use Rattle.completion.specs.BridgeLaws.{bridge_rises, bridge_short}
use Rattle.completion.specs.Bridged.{bridged_from, bridged_in}

-- ---- two rows joined at a cut

join_row : (a : ℕ) (js : List Cut) (k : Cut) (ks : List Cut) (z : ℕ) → Row a js k.left → k.left ≤ k.right → Row k.right ks z → Row a (js ++ (k ∷ ks)) z
join_row a [] k ks z r h t = (r, h, t)
join_row a (j ∷ js) k ks z r h t = (r.0, r.1, join_row j.right js k ks z r.2 h t)

join_pieces : (a : ℕ) (js : List Cut) (k : Cut) (ks : List Cut) (z : ℕ) (p : Piece) → Memᴰ p (pieces_from a (js ++ (k ∷ ks)) z)
    → Memᴰ p (pieces_from a js k.left) ⊎ Memᴰ p (pieces_from k.right ks z)
join_pieces a [] k ks z p (Memᴰ.head e) = inl (Memᴰ.head e)
join_pieces a [] k ks z p (Memᴰ.tail m) = inr m
join_pieces a (j ∷ js) k ks z p (Memᴰ.head e) = inl (Memᴰ.head e)
join_pieces a (j ∷ js) k ks z p (Memᴰ.tail m) = elim (join_pieces j.right js k ks z p m) [ inl i ↦ inl (Memᴰ.tail i) | inr i ↦ inr i ]

-- ---- the points of a bridge are at boundaries

bridge_points : (g : FrameGrid) (limit z n a : ℕ) (k : Cut) → Memᴰ k (bridge_from g limit z n a) → k.left ≡ k.right
unfolding bridge_from
bridge_points g limit z zero a k m = absurd (Memᴰ.not-nil m)
bridge_points g limit z (suc n) a k m = go (ltb limit (length_of g (record { start = a; end = z }))) (eqb (on_to g limit z a) z) m (bridge_points g limit z n (on_to g limit z a) k)
  where
    go : (b c : Bool) → Memᴰ k (cond b (cond c [] (cut_at (on_to g limit z a) ∷ bridge_from g limit z n (on_to g limit z a))) [])
        → (Memᴰ k (bridge_from g limit z n (on_to g limit z a)) → k.left ≡ k.right) → k.left ≡ k.right
    go true true i f = absurd (Memᴰ.not-nil i)
    go true false (Memᴰ.head e) f = ap (λ (c : Cut). c.left) e ∙ sym (ap (λ (c : Cut). c.right) e)
    go true false (Memᴰ.tail i) f = f i
    go false c i f = absurd (Memᴰ.not-nil i)

-- ---- all of them

bridged_row : (g : FrameGrid) (limit a : ℕ) (cs : List Cut) (z : ℕ) → Row a cs z → Row a (bridged_from g limit a cs z) z
bridged_row g limit a [] z r = bridge_rises g limit a z r
bridged_row g limit a (k ∷ cs) z r =
    join_row a (bridge_of g limit a k.left) k (bridged_from g limit k.right cs z) z (bridge_rises g limit a k.left r.0) r.1 (bridged_row g limit k.right cs z r.2)

bridged_pieces : (g : FrameGrid) (limit a : ℕ) (cs : List Cut) (z : ℕ) → Row a cs z → (p : Piece) → Memᴰ p (pieces_from a (bridged_from g limit a cs z) z)
    → (length_of g p ≤ limit) ⊎ IsSingle p
bridged_pieces g limit a [] z r p m = bridge_short g limit a z r p m
bridged_pieces g limit a (k ∷ cs) z r p m = elim (join_pieces a (bridge_of g limit a k.left) k (bridged_from g limit k.right cs z) z p m) [
  | inl i ↦ bridge_short g limit a k.left r.0 p i
  | inr i ↦ bridged_pieces g limit k.right cs z r.2 p i
]

module _ (g : FrameGrid) (limit : ℕ) (s : Span) where
  -- a point between boundary a and boundary z is kept where each gap ends before the one or starts after the other
  point_place : (a z : ℕ) → s.first ≤ a → z ≤ s.last → ((h : Cut) → Memᴰ h s.gaps → (h.right ≤ a) ⊎ (z ≤ h.left)) → a < z
      → (k : Cut) → Memᴰ k (bridge_of g limit a z) → Place s k
  point_place a z from to clear h k m =
      let i = row_inside a (bridge_of g limit a z) z k (bridge_rises g limit a z h) m in
      let e = bridge_points g limit z (z - a) a k m in
      boundary e (kept_in_lem s.first s.gaps s.last k.left (omega (arith, from, i.0)) (omega (arith, to, i.1, i.2)) (out i))
    where
      out : (a < k.left) × (k.left ≤ k.right) × (k.right < z) → Outside s.gaps k.left
      out i j q = elim (clear j q) [ inl l ↦ inr (omega (arith, l, i.0)) | inr l ↦ inl (omega (arith, l, i.1, i.2)) ]

  placed-from : (a : ℕ) (cs : List Cut) → s.first ≤ a → Row a cs s.last → ((k : Cut) → Memᴰ k cs → Place s k)
      → ((h : Cut) → Memᴰ h s.gaps → (h.right ≤ a) ⊎ Memᴰ h cs) → (k : Cut) → Memᴰ k (bridged_from g limit a cs s.last) → Place s k
  placed-from a [] from r placed gaps k m = point_place a s.last from (omega arith) clear r k m
    where
      clear : (h : Cut) → Memᴰ h s.gaps → (h.right ≤ a) ⊎ (s.last ≤ h.left)
      clear h q = elim (gaps h q) [ inl l ↦ inl l | inr i ↦ absurd (Memᴰ.not-nil i) ]
  placed-from a (c ∷ cs) from r placed gaps k m =
      go (Memᴰ.append_cases (bridge_of g limit a c.left) m) (placed-from c.right cs (omega (arith, from, r.0, r.1)) r.2 (λ (j : Cut) (i : Memᴰ j cs). placed j (Memᴰ.tail i)) later k)
    where
      clear : (h : Cut) → Memᴰ h s.gaps → (h.right ≤ a) ⊎ (c.left ≤ h.left)
      clear h q = elim (gaps h q) [ inl l ↦ inl l | inr i ↦ inr (after h i) ]
        where
          after : (j : Cut) → Memᴰ j (c ∷ cs) → c.left ≤ j.left
          after j (Memᴰ.head e) = omega (arith, ap (λ (t : Cut). t.left) e)
          after j (Memᴰ.tail i) = omega (arith, r.1, (row_inside c.right cs s.last j r.2 i).0)

      later : (h : Cut) → Memᴰ h s.gaps → (h.right ≤ c.right) ⊎ Memᴰ h cs
      later h q = elim (gaps h q) [ inl l ↦ inl (omega (arith, l, r.0, r.1)) | inr i ↦ here i ]
        where
          here : Memᴰ h (c ∷ cs) → (h.right ≤ c.right) ⊎ Memᴰ h cs
          here (Memᴰ.head e) = inl (omega (arith, ap (λ (t : Cut). t.right) e))
          here (Memᴰ.tail i) = inr i

      go : Memᴰ k (bridge_of g limit a c.left) ⊎ Memᴰ k (c ∷ bridged_from g limit c.right cs s.last)
          → (Memᴰ k (bridged_from g limit c.right cs s.last) → Place s k) → Place s k
      go (inl i) rest = point_place a c.left from (omega (arith, r.1, row_ends c.right cs s.last r.2)) clear r.0 k i
      go (inr (Memᴰ.head e)) rest = subst (Place s) (sym e) (placed c (Memᴰ.head refl))
      go (inr (Memᴰ.tail i)) rest = rest i

  -- candidates that hold every gap are, with the points that are added, a division again
  pub bridged_divides : (cs : List Cut) → Division s cs → Among s.gaps cs → Division s (bridged_in g limit s cs)
  bridged_divides cs d held =
      record {
        rises = bridged_row g limit s.first cs s.last d.rises;
        placed = placed-from s.first cs (omega arith) d.rises d.placed (λ (h : Cut) (m : Memᴰ h s.gaps). inr (held h m));
      }

  -- document 01: "until neighbouring candidates are within the maximum or one frame apart"
  pub bridged-short : (cs : List Cut) → Division s cs → (p : Piece) → Memᴰ p (pieces_of s (bridged_in g limit s cs)) → (length_of g p ≤ limit) ⊎ IsSingle p
  bridged-short cs d p m = bridged_pieces g limit s.first cs s.last d.rises p m
