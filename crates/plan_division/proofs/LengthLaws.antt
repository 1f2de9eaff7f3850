-- Neighbouring candidates lie within one piece of the bridged ones, which is within the maximum or a single frame; and a piece of a path over the maximum leads to the neighbour.
use Rattle.std.specs.Prelude.{◌≡◌, refl, ◌⊎◌, ℕ, suc, ◌-◌, ◌≤◌, ◌<◌, T, leb, eqb, length}
use Rattle.std.proofs.Common.{ap, inl, inr, eq-or-lt_of_le, arith, leb→le, eqb→eq}
use mathlib.Core.List.Memᴰ
use mathlib.Core.List.{List, [], ◌∷◌, Memᴰ}
use Rattle.base_laws.specs.Tests.{lt_or_le, or_split}
use Rattle.grid.specs.BoundaryLaws.{Accepted, boundary_mono}
use Rattle.grid.specs.declared.boundary.FrameGrid.{FrameGrid}
use Rattle.path_pieces.specs.Pieces.{piece_length, is_within, may_start}
use Rattle.path_rules.specs.Paths.{Onward, Path}
use Rattle.path_rules.specs.PathsLaws.{onward_rises}
use Rattle.candidate_span.specs.Gaps.{Cut, Spread}
use Rattle.candidate_span.specs.Span.{Span}
use Rattle.division.specs.Division.{Division}
use Rattle.division.specs.Pieces.{Piece, piece_from, pieces_from, pieces_of, IsSingle, length_of}
use Rattle.candidates.specs.declared.candidate.Candidate.{Candidate}
use Rattle.candidates.specs.Samples.{lefts_of, rights_of}
use Rattle.completion.specs.Bridged.{bridged_in}
use Rattle.completion.specs.BridgedLaws.{bridged_divides, bridged-short}
use Rattle.plan_division.specs.Along.{ends_at, piece_between, pieces_through, pieces_along, all_cuts}
use Rattle.plan_division.proofs.PiecesLaws.{piece_length_lem}
use Rattle.plan_division.specs.Across.{HasCut, Across}
use Rattle.plan_division.specs.AcrossLaws.{all_divides, left_cut, gaps_all}
use Rattle.plan_division.specs.Completed.{CompletedByLength}

-- the piece of a row that has all from boundary b to boundary e, where no cut lies between
covered : (a : ℕ) (ks : List Cut) (z b e : ℕ) → a ≤ b → e ≤ z → ((k : Cut) → Memᴰ k ks → (k.right ≤ b) ⊎ (e ≤ k.left))
    → (q : Piece) × Memᴰ q (pieces_from a ks z) × (q.start ≤ b) × (e ≤ q.end)
covered a [] z b e h l f = (piece_from a z, Memᴰ.head refl, h, l)
covered a (k ∷ ks) z b e h l f = go (f k (Memᴰ.head refl)) (λ (r : k.right ≤ b). covered k.right ks z b e r l (λ (j : Cut) (m : Memᴰ j ks). f j (Memᴰ.tail m)))
  where
    go : (k.right ≤ b) ⊎ (e ≤ k.left) → (k.right ≤ b → (q : Piece) × Memᴰ q (pieces_from k.right ks z) × (q.start ≤ b) × (e ≤ q.end))
        → (q : Piece) × Memᴰ q (pieces_from a (k ∷ ks) z) × (q.start ≤ b) × (e ≤ q.end)
    go (inl r) rest = let c = rest r in (c.0, Memᴰ.tail c.1, c.2, c.3)
    go (inr r) rest = (piece_from a k.left, Memᴰ.head refl, h, r)

-- ---- a path's pieces

module _ (cs : List Candidate) where
  -- a piece of a path, by its two candidates
  pub record PieceOf (rule : ℕ → ℕ → Type 0) (last : ℕ) (q : Piece) : Type 0 where
    pub from : ℕ
    pub to : ℕ
    pub allowed : rule from to
    pub before : to ≤ last
    pub is : q ≡ piece_between cs from to

  piece_of : (rule : ℕ → ℕ → Type 0) → ((i j : ℕ) → rule i j → i < j) → (i : ℕ) (rest : List ℕ) (last : ℕ) (q : Piece) → Onward rule i rest last
      → Memᴰ q (pieces_through cs i rest) → PieceOf rule last q
  piece_of rule up i [] last q r m = absurd (Memᴰ.not-nil m)
  piece_of rule up i (j ∷ rest) last q (a, r) (Memᴰ.head e) = record { from = i; to = j; allowed = a; before = onward_rises rule up j rest last r; is = e }
  piece_of rule up i (j ∷ rest) last q (a, r) (Memᴰ.tail m) = piece_of rule up j rest last q r m

  pub path_piece : (rule : ℕ → ℕ → Type 0) → ((i j : ℕ) → rule i j → i < j) → (path : List ℕ) (last : ℕ) (q : Piece) → Path rule path last
      → Memᴰ q (pieces_along cs path) → PieceOf rule last q
  path_piece rule up [] last q r m = absurd r
  path_piece rule up (i ∷ rest) last q (e, r) m = piece_of rule up i rest last q r m

-- ---- neighbours

module _ (g : FrameGrid) (ok : Accepted g) (s : Span) (spread : Spread s.first s.gaps s.last) (maximum : ℕ) (ds cs : List Candidate)
    (c : CompletedByLength g s maximum ds cs) where
  bridged_division : Division s (bridged_in g maximum s (all_cuts ds))
  bridged_division = bridged_divides g maximum s (all_cuts ds) (all_divides s ds c.first) (gaps_all s ds c.first spread)

  -- no cut of the bridged candidates lies between neighbours
  apart_from : (i : ℕ) → suc i < length cs → (k : Cut) → HasCut cs k → (k.right ≤ (ends_at cs i).right) ⊎ ((ends_at cs (suc i)).left ≤ k.left)
  apart_from i h k f = elim (lt_or_le i f.number) [
    | inl q ↦ inr (later (eq-or-lt_of_le q))
    | inr q ↦ inl (earlier (eq-or-lt_of_le q))
  ]
    where
      p : Across s cs
      p = c.across

      later : (suc i ≡ f.number) ⊎ (suc i < f.number) → (ends_at cs (suc i)).left ≤ k.left
      later (inl e) = omega (arith, ap (λ (n : ℕ). (ends_at cs n).left) e, ap (λ (j : Cut). j.left) f.is)
      later (inr l) = omega (arith, p.inside (suc i) h, p.apart (suc i) f.number l (omega (arith, f.before)), ap (λ (j : Cut). j.left) f.is)

      earlier : (f.number ≡ i) ⊎ (f.number < i) → k.right ≤ (ends_at cs i).right
      earlier (inl e) = omega (arith, ap (λ (n : ℕ). (ends_at cs n).right) e, ap (λ (j : Cut). j.right) f.is)
      earlier (inr l) = omega (arith, p.apart f.number i l (omega arith), p.inside i (omega arith), ap (λ (j : Cut). j.right) f.is)

  -- document 01: "neighbouring candidates are within the maximum or one frame apart"
  pub neighbours_short : (i : ℕ) → suc i < length cs → (length_of g (piece_between cs i (suc i)) ≤ maximum) ⊎ IsSingle (piece_between cs i (suc i))
  neighbours_short i h = go (covered s.first (bridged_in g maximum s (all_cuts ds)) s.last (ends_at cs i).right (ends_at cs (suc i)).left from to between)
    where
      p : Across s cs
      p = c.across

      from : s.first ≤ (ends_at cs i).right
      from = elim (lt_or_le 0 i) [
        | inl q ↦ omega (arith, p.starts, p.apart 0 i q (omega arith), p.inside i (omega arith))
        | inr q ↦ let e : i ≡ 0 = omega arith in omega (arith, p.starts, ap (λ (n : ℕ). (ends_at cs n).right) e)
      ]

      to : (ends_at cs (suc i)).left ≤ s.last
      to = elim (lt_or_le (suc i) (length cs - 1)) [
        | inl q ↦ omega (arith, p.stops, p.apart (suc i) (length cs - 1) q (omega arith), p.inside (suc i) h)
        | inr q ↦ let e : suc i ≡ length cs - 1 = omega arith in omega (arith, p.stops, ap (λ (n : ℕ). (ends_at cs n).left) e)
      ]

      between : (k : Cut) → Memᴰ k (bridged_in g maximum s (all_cuts ds)) → (k.right ≤ (ends_at cs i).right) ⊎ ((ends_at cs (suc i)).left ≤ k.left)
      between k m = apart_from i h k (left_cut s cs p spread k (bridged_division.placed k m) (c.bridged k m))

      go : (q : Piece) × Memᴰ q (pieces_of s (bridged_in g maximum s (all_cuts ds))) × (q.start ≤ (ends_at cs i).right) × ((ends_at cs (suc i)).left ≤ q.end)
          → (length_of g (piece_between cs i (suc i)) ≤ maximum) ⊎ IsSingle (piece_between cs i (suc i))
      go (q, m, a, b) = elim (bridged-short g maximum s (all_cuts ds) (all_divides s ds c.first) q m) [
        | inl l ↦ inl (omega (arith, l, boundary_mono g ok q.start (ends_at cs i).right a, boundary_mono g ok (ends_at cs (suc i)).left q.end b))
        | inr e ↦ inr (omega (arith, e, a, b, p.apart i (suc i) (omega arith) h))
      ]

-- a piece over the limit leads to the neighbour
pub long_next : (g : FrameGrid) (cs : List Candidate) (limit i j : ℕ) → i < length cs → j < length cs
    → T (may_start limit (lefts_of g cs) (rights_of g cs) j i) → limit < length_of g (piece_between cs i j) → suc i ≡ j
unfolding may_start is_within
long_next g cs limit i j h l t over = elim (or_split (leb (piece_length (lefts_of g cs) (rights_of g cs) i j) limit) (eqb (suc i) j) t) [
  | inl q ↦ absurd (omega (arith, over, leb→le (piece_length (lefts_of g cs) (rights_of g cs) i j) limit q, piece_length_lem cs g i j h l))
  | inr q ↦ eqb→eq (suc i) j q
]
