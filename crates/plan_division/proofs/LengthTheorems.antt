-- Demand 3 by length, of the division along a path over completed candidates.
--   length-demand   a path that the piece rule allows, its limit the maximum
--   length_found    the same of `best_path`
use Rattle.std.specs.Prelude.{◌≡◌, ◌⊎◌, ℕ, ◌-◌, ◌≤◌, ◌<◌, Float, length}
use Rattle.std.proofs.Common.{sym, subst, inl, inr, arith}
use mathlib.Core.List.{List, Memᴰ}
use Rattle.base_laws.specs.Tests.{lt_or_le}
use Rattle.grid.specs.BoundaryLaws.{Accepted}
use Rattle.grid.specs.declared.boundary.FrameGrid.{FrameGrid}
use Rattle.path_pieces.specs.Domain.{Searchable}
use Rattle.path_pieces.specs.declared.lengths.Lengths.{Lengths}
use Rattle.path_rules.specs.Paths.{Allowed, Path, PathByLength}
use Rattle.path_by_length.specs.Table.{best_path}
use Rattle.path_by_length.proofs.Theorems.{best_path_allowed}
use Rattle.candidate_span.specs.Gaps.{Spread}
use Rattle.candidate_span.specs.Span.{Span}
use Rattle.division.specs.Pieces.{Piece, pieces_of, IsSingle, length_of}
use Rattle.division.specs.Demand.{DemandByLength}
use Rattle.division.specs.DemandLaws.{demand_length}
use Rattle.candidates.specs.declared.candidate.Candidate.{Candidate}
use Rattle.candidates.specs.Samples.{lefts_of, rights_of}
use Rattle.plan_division.specs.Along.{cuts_along, piece_between, RisingPath}
use Rattle.plan_division.proofs.PiecesLaws.{pieces_along_lem}
use Rattle.plan_division.specs.AcrossLaws.{along_divides}
use Rattle.plan_division.specs.Completed.{CompletedByLength}
use Rattle.plan_division.proofs.CountLaws.{last_same, length_rises}
use Rattle.plan_division.proofs.LengthLaws.{PieceOf, path_piece, neighbours_short, long_next}

module _ (g : FrameGrid) (ok : Accepted g) (s : Span) (spread : Spread s.first s.gaps s.last) (maximum : ℕ) (ds cs : List Candidate)
    (c : CompletedByLength g s maximum ds cs) where
  -- the pieces that the rule allows
  abbrev Rule : ℕ → ℕ → Type 0
  Rule i j = Allowed maximum (lefts_of g cs) (rights_of g cs) i j

  long_single : (q : Piece) → PieceOf cs Rule (length cs - 1) q → maximum < length_of g q → IsSingle q
  long_single q f over =
      let some = c.across.some in
      let far = subst (λ (r : Piece). maximum < length_of g r) f.is over in
      let e = long_next g cs maximum f.from f.to (omega (arith, f.allowed.0, f.before, some)) (omega (arith, f.before, some)) f.allowed.1 far in
      subst IsSingle (sym f.is) (subst (λ (j : ℕ). IsSingle (piece_between cs f.from j)) e
      (elim (neighbours_short g ok s spread maximum ds cs c f.from (omega (arith, f.before, some, e))) [
        | inl h ↦ absurd (omega (arith, h, subst (λ (j : ℕ). maximum < length_of g (piece_between cs f.from j)) (sym e) far))
        | inr h ↦ h
      ]))

  -- a path by length over completed candidates meets demand 3
  pub length_demand : (path : List ℕ) → PathByLength maximum (lefts_of g cs) (rights_of g cs) path → DemandByLength g s maximum (cuts_along cs path)
  length_demand path a = demand_length g s maximum (cuts_along cs path) (along_divides s cs c.across path rises) each
    where
      allowed : Path Rule path (length cs - 1)
      allowed = subst (λ (n : ℕ). Path Rule path n) (last_same g cs) a

      rises : RisingPath cs path
      rises = length_rises g cs maximum path a

      each : (q : Piece) → Memᴰ q (pieces_of s (cuts_along cs path)) → (length_of g q ≤ maximum) ⊎ IsSingle q
      each q m = elim (lt_or_le maximum (length_of g q)) [
        | inl over ↦ inr (long_single q (path_piece cs Rule (λ i j b. b.0) path (length cs - 1) q allowed (subst (λ (qs : List Piece). Memᴰ q qs) (pieces_along_lem s cs c.across path rises) m)) over)
        | inr h ↦ inl h
      ]

  -- so the path that is found
  pub length_found : (l : Lengths) (cost : List Float) → l.limit ≡ maximum → Searchable l (lefts_of g cs) (rights_of g cs) cost
      → DemandByLength g s maximum (cuts_along cs (best_path l (lefts_of g cs) (rights_of g cs) cost))
  length_found l cost e q =
      let path = best_path l (lefts_of g cs) (rights_of g cs) cost in
      length_demand path (subst (λ (n : ℕ). PathByLength n (lefts_of g cs) (rights_of g cs) path) e (best_path_allowed q))
