-- A row of cuts goes up by a frame at least at each step, and boundaries never fall: so the pieces lie in order, and with what lies between them they make up the span.
use Rattle.std.specs.Prelude.{◌≡◌, refl, ◌⊎◌, cond, ℕ, suc, ◌+◌, ◌≤◌, ◌<◌, ltb, length}
use Rattle.std.proofs.Common.{sym, ap, subst, inl, inr, arith, lt-ltb, le-ltb}
use mathlib.Core.List.Memᴰ
use mathlib.Core.List.{List, [], ◌∷◌, Memᴰ}
use Rattle.base_laws.specs.Tests.{lt_or_le}
use Rattle.grid.specs.BoundaryLaws.{Accepted, boundary_mono, boundary_above}
use Rattle.grid.specs.declared.boundary.FrameGrid.{FrameGrid}
use Rattle.candidate_span.specs.Gaps.{Cut}
use Rattle.candidate_span.specs.Span.{Span}
use Rattle.division.specs.Division.{Row, Division}
use Rattle.division.specs.Pieces.{Piece, piece_from, pieces_from, pieces_of, length_of, longest, overs, total, between, InOrder}

-- ---- rows

-- a row has a frame at least from its start to its end
pub row_ends : (a : ℕ) (ks : List Cut) (z : ℕ) → Row a ks z → a < z
row_ends a [] z r = r
row_ends a (k ∷ ks) z r = omega (arith, row_ends k.right ks z r.2)

-- a row may start earlier
pub row_from : (a b : ℕ) (ks : List Cut) (z : ℕ) → a ≤ b → Row b ks z → Row a ks z
row_from a b [] z h r = omega arith
row_from a b (k ∷ ks) z h r = (omega arith, r.1, r.2)

-- each cut of a row lies strictly inside it
pub row_inside : (a : ℕ) (ks : List Cut) (z : ℕ) (k : Cut) → Row a ks z → Memᴰ k ks → (a < k.left) × (k.left ≤ k.right) × (k.right < z)
row_inside a [] z k r m = elim m [ ]
row_inside a (c ∷ cs) z k r (Memᴰ.head e) =
    subst (λ (j : Cut). (a < j.left) × (j.left ≤ j.right) × (j.right < z)) (sym e) (r.0, r.1, row_ends c.right cs z r.2)
row_inside a (c ∷ cs) z k r (Memᴰ.tail m) = let i = row_inside c.right cs z k r.2 m in (omega arith, i.1, i.2)

-- ---- how many pieces

-- one more than cuts
pub pieces_count : (a : ℕ) (ks : List Cut) (z : ℕ) → length (pieces_from a ks z) ≡ suc (length ks)
pieces_count a [] z = refl
pieces_count a (k ∷ ks) z = ap suc (pieces_count k.right ks z)

-- ---- the longest

-- no piece is longer than the longest
pub longest_most : (g : FrameGrid) (ps : List Piece) (p : Piece) → Memᴰ p ps → length_of g p ≤ longest g ps
longest_most g [] p m = absurd (Memᴰ.not-nil m)
longest_most g (q ∷ ps) p (Memᴰ.head e) = omega (arith, ap (length_of g) e)
longest_most g (q ∷ ps) p (Memᴰ.tail m) = omega (arith, longest_most g ps p m)

-- and one piece is as long
pub longest-one : (g : FrameGrid) (q : Piece) (ps : List Piece) → (p : Piece) × Memᴰ p (q ∷ ps) × (length_of g p ≡ longest g (q ∷ ps))
longest-one g q [] = (q, Memᴰ.head refl, omega arith)
longest-one g q (r ∷ ps) = go (lt_or_le (length_of g q) (longest g (r ∷ ps))) (longest-one g r ps)
  where
    go : (length_of g q < longest g (r ∷ ps)) ⊎ (longest g (r ∷ ps) ≤ length_of g q) → (p : Piece) × Memᴰ p (r ∷ ps) × (length_of g p ≡ longest g (r ∷ ps))
        → (p : Piece) × Memᴰ p (q ∷ (r ∷ ps)) × (length_of g p ≡ longest g (q ∷ (r ∷ ps)))
    go (inl l) f = (f.0, Memᴰ.tail f.1, omega (arith, f.2))
    go (inr l) f = (q, Memᴰ.head refl, omega arith)

-- ---- pieces over a limit

over_none : (limit x : ℕ) → x ≤ limit → ◌≡◌ {A = ℕ} (cond (ltb limit x) 1 0) 0
over_none limit x h = rw (le-ltb limit x h)

over-one : (limit x : ℕ) → limit < x → ◌≡◌ {A = ℕ} (cond (ltb limit x) 1 0) 1
over-one limit x h = rw (lt-ltb limit x h)

-- where the longest is within a limit, none is over it
pub overs-none : (g : FrameGrid) (limit : ℕ) (ps : List Piece) → longest g ps ≤ limit → overs g limit ps ≡ 0
overs-none g limit [] h = refl
overs-none g limit (p ∷ ps) h = omega (arith, over_none limit (length_of g p) (omega arith), overs-none g limit ps (omega arith))

-- and where none is over it, the longest is within it
pub none_over : (g : FrameGrid) (limit : ℕ) (ps : List Piece) → overs g limit ps ≡ 0 → longest g ps ≤ limit
none_over g limit [] h = omega arith
none_over g limit (p ∷ ps) h = omega (arith, here (lt_or_le limit (length_of g p)), none_over g limit ps (omega arith))
  where
    here : (limit < length_of g p) ⊎ (length_of g p ≤ limit) → length_of g p ≤ limit
    here (inl l) = absurd (omega (arith, h, over-one limit (length_of g p) l))
    here (inr l) = l

module _ (g : FrameGrid) (ok : Accepted g) where
  -- ---- their order
  row_order : (a : ℕ) (ks : List Cut) (z : ℕ) → z ≤ g.frames → Row a ks z → InOrder g (pieces_from a ks z)
  row_order a [] z h r = boundary_above g ok a z r h
  row_order a (k ∷ []) z h r = (
    boundary_above g ok a k.left r.0 (omega (arith, r.1, r.2)),
    boundary_mono g ok k.left k.right r.1,
    boundary_above g ok k.right z r.2 h,
  )
  row_order a (k ∷ (j ∷ ks)) z h r = (
    boundary_above g ok a k.left r.0 (omega (arith, r.1, row_ends k.right (j ∷ ks) z r.2)),
    boundary_mono g ok k.left k.right r.1,
    row_order k.right (j ∷ ks) z h r.2,
  )

  -- ---- of a division

  -- document 01: "Pieces plus what lies between them add up to the span."
  pub pieces_add : (s : Span) (cuts : List Cut) → Division s cuts → total g (pieces_of s cuts) + between g cuts ≡ length_of g (piece_from s.first s.last)
  pieces_add s cuts d = row_adds s.first cuts s.last d.rises
    where
      row_adds : (a : ℕ) (ks : List Cut) (z : ℕ) → Row a ks z → total g (pieces_from a ks z) + between g ks ≡ length_of g (piece_from a z)
      row_adds a [] z r = omega arith
      row_adds a (k ∷ ks) z r =
          omega (
            arith,
            row_adds k.right ks z r.2,
            boundary_mono g ok a k.left (omega (arith, r.0)),
            boundary_mono g ok k.left k.right r.1,
            boundary_mono g ok k.right z (omega (arith, row_ends k.right ks z r.2)),
          )

  -- pieces are in order, each start below its end
  pub pieces_order : (s : Span) (cuts : List Cut) → s.last ≤ g.frames → Division s cuts → InOrder g (pieces_of s cuts)
  pieces_order s cuts h d = row_order s.first cuts s.last h d.rises
