-- A path ends at the span's last candidate, so its last piece is the division's, and every other piece ends where the next cut starts: piece by piece the two are the same.
use Rattle.std.specs.Prelude.{◌≡◌, ℕ, suc, ◌-◌, ◌<◌, length}
use Rattle.std.proofs.Math.Path.{refl}
use Rattle.std.proofs.Common.{sym, ap, subst, ◌∙◌, arith}
use mathlib.Core.List.{List, [], ◌∷◌}
use Rattle.grid.specs.declared.boundary.FrameGrid.{FrameGrid}
use Rattle.path_pieces.specs.Pieces.{piece_length, over_of}
use Rattle.path_rules.specs.Paths.{Onward, over_from, over_count}
use Rattle.candidate_span.specs.Span.{Span}
use Rattle.division.specs.Pieces.{Piece, pieces_from, pieces_of, length_of, overs}
use Rattle.candidates.specs.declared.candidate.Candidate.{Candidate}
use Rattle.candidates.specs.Samples.{lefts_of, rights_of}
use Rattle.plan_division.specs.Along.{ends_at, cuts_at, cuts_along, piece_between, pieces_through, pieces_along, RisingPath}
use Rattle.plan_division.specs.Across.{Across}
use Rattle.plan_division.specs.AlongLaws.{onward-last, left_sample_lem, right_sample_lem}

module _ (cs : List Candidate) where
  -- ---- the pieces

  pieces_from_lem : (i j : ℕ) (rest : List ℕ) (last : ℕ) → Onward (λ (a b : ℕ). a < b) i (j ∷ rest) last
      → pieces_from (ends_at cs i).right (cuts_at cs (j ∷ rest)) (ends_at cs last).left ≡ pieces_through cs i (j ∷ rest)
  pieces_from_lem i j [] last (h, e) = ap (λ (n : ℕ). piece_between cs i n ∷ []) (sym e)
  pieces_from_lem i j (k ∷ rest) last (h, r) = ap (λ (ps : List Piece). piece_between cs i j ∷ ps) (pieces_from_lem j k rest last r)

  through_count : (i : ℕ) (rest : List ℕ) → length (pieces_through cs i rest) ≡ length rest
  through_count i [] = refl
  through_count i (j ∷ rest) = ap suc (through_count j rest)

  -- ---- in samples

  -- a piece of the path search is as long as the division's
  pub piece_length_lem : (g : FrameGrid) (i j : ℕ) → i < length cs → j < length cs
      → piece_length (lefts_of g cs) (rights_of g cs) i j ≡ length_of g (piece_between cs i j)
  unfolding piece_length
  piece_length_lem g i j h l = rw (left_sample_lem cs g j l, right_sample_lem cs g i h)

  over-through : (g : FrameGrid) (limit i : ℕ) (rest : List ℕ) (last : ℕ) → Onward (λ (a b : ℕ). a < b) i rest last → last < length cs
      → overs g limit (pieces_through cs i rest) ≡ over_from limit (lefts_of g cs) (rights_of g cs) i rest
  unfolding over_from over_of
  over-through g limit i [] last r l = refl
  over-through g limit i (j ∷ rest) last (h, r) l =
      let b = onward-last j rest last r in
      rw (piece_length_lem g i j (omega (arith, h, b)) (omega arith), over-through g limit j rest last r l)

-- ---- of a whole path

module _ (s : Span) (cs : List Candidate) (p : Across s cs) where
  -- the division's pieces are the path's
  pub pieces_along_lem : (path : List ℕ) → RisingPath cs path → pieces_of s (cuts_along cs path) ≡ pieces_along cs path
  pieces_along_lem [] r = absurd r
  pieces_along_lem (i ∷ []) (e, q) = absurd (omega (arith, e, q, p.some))
  pieces_along_lem (i ∷ (j ∷ rest)) (e, r) =
      subst (λ (a : ℕ). pieces_from a (cuts_at cs (j ∷ rest)) s.last ≡ pieces_through cs i (j ∷ rest)) (ap (λ (n : ℕ). (ends_at cs n).right) e ∙ p.starts)
      (subst (λ (z : ℕ). pieces_from (ends_at cs i).right (cuts_at cs (j ∷ rest)) z ≡ pieces_through cs i (j ∷ rest)) p.stops
      (pieces_from_lem cs i j rest (length cs - 1) r))

  -- one fewer than its candidates
  pub count_along : (path : List ℕ) → RisingPath cs path → length path ≡ suc (length (pieces_of s (cuts_along cs path)))
  count_along [] r = absurd r
  count_along (i ∷ rest) r = rw (pieces_along_lem (i ∷ rest) r) (ap suc (sym (through_count cs i rest)))

  -- and as many are over a limit
  pub overs-along : (g : FrameGrid) (limit : ℕ) (path : List ℕ) → RisingPath cs path
      → overs g limit (pieces_of s (cuts_along cs path)) ≡ over_count limit (lefts_of g cs) (rights_of g cs) path
  unfolding over_count
  overs-along g limit [] r = absurd r
  overs-along g limit (i ∷ rest) r = rw (pieces_along_lem (i ∷ rest) r) (over-through cs g limit i rest (length cs - 1) r.1 (omega (arith, p.some)))
