-- No division into as few pieces keeps a limit below the reach. So a division within the reach that has a piece over the maximum is as good as any;
-- and candidates that have the cuts of the greedy division and of equal shares have such a division into exactly as many pieces as were asked for.
use Rattle.std.specs.Prelude.{◌≡◌, ◌⊎◌, ℕ, ◌≤◌, ◌<◌, min, max, length}
use Rattle.std.proofs.Common.{subst, inl, inr, arith}
use mathlib.Core.List.{List, [], ◌∷◌, Memᴰ}
use Rattle.grid.specs.BoundaryLaws.{Accepted}
use Rattle.grid.specs.declared.boundary.FrameGrid.{FrameGrid}
use Rattle.candidate_span.specs.Gaps.{Cut, Spread}
use Rattle.candidate_span.specs.Span.{Span}
use Rattle.division.specs.Division.{kept_in, pieces_asked, Division, Among}
use Rattle.division.specs.Pieces.{Piece, piece_from, pieces_from, pieces_of, IsSingle, length_of, longest}
use Rattle.division.specs.PiecesLaws.{longest_most, longest-one}
use Rattle.division.specs.RefineLaws.{fewer_cuts}
use Rattle.division.specs.PlacesLaws.{at_most_kept}
use Rattle.division.specs.Reach.{IsReach}
use Rattle.division.specs.ReachLaws.{asked_some}
use Rattle.division.specs.Shares.{shares_of}
use Rattle.division.specs.SharesLaws.{shares_divide, shares_count}
use Rattle.division.specs.Demand.{HasPiece, DemandByCount, DemandByLength}

-- a division has a piece as long as its longest
has_longest : (g : FrameGrid) (a : ℕ) (ks : List Cut) (z n : ℕ) → n ≤ longest g (pieces_from a ks z)
    → (p : Piece) × Memᴰ p (pieces_from a ks z) × (n ≤ length_of g p)
has_longest g a [] z n h = let p = longest-one g (piece_from a z) [] in (p.0, p.1, omega (arith, h, p.2))
has_longest g a (k ∷ ks) z n h =
    let p = longest-one g (piece_from a k.left) (pieces_from k.right ks z) in
    (p.0, p.1, omega (arith, h, p.2))

module _ (g : FrameGrid) (s : Span) where
  -- ---- by count

  -- a division into min(N, kept frames) pieces within the reach meets demand 3
  pub demand_reach : (count maximum reach : ℕ) (cuts : List Cut) → IsReach g s count maximum reach → Division s cuts
      → length (pieces_of s cuts) ≡ pieces_asked s count → longest g (pieces_of s cuts) ≤ reach → DemandByCount g s count maximum cuts
  demand_reach count maximum reach cuts r d n w = record { divides = d; number = omega (arith, n); least = least }
    where
      least : (p : Piece) → Memᴰ p (pieces_of s cuts) → maximum < length_of g p
          → (others : List Cut) → Division s others → length (pieces_of s others) ≤ pieces_asked s count
          → HasPiece g (longest g (pieces_of s cuts)) (pieces_of s others)
      least p m over others e few =
          let limit = max maximum (longest g (pieces_of s others)) in
          let h = r.least limit (omega arith) (record { cuts = others; divides = e; few = few; within = omega arith }) in
          has_longest g s.first others s.last (longest g (pieces_of s cuts)) (omega (arith, w, h, over, longest_most g (pieces_of s cuts) p m))

  -- so does one into N pieces within the maximum, where no reach is sought
  pub demand_maximum : Spread s.first s.gaps s.last → (count maximum : ℕ) (cuts : List Cut) → Division s cuts
      → length (pieces_of s cuts) ≡ count → longest g (pieces_of s cuts) ≤ maximum → DemandByCount g s count maximum cuts
  demand_maximum spread count maximum cuts d n w =
      record {
        divides = d;
        number = omega (arith, n, at_most_kept s spread cuts d);
        least = λ p m over others e few. absurd (omega (arith, w, over, longest_most g (pieces_of s cuts) p m));
      }

  -- ---- by length

  -- a division of which each piece is within the maximum or a single frame meets demand 3
  pub demand_length : (maximum : ℕ) (cuts : List Cut) → Division s cuts → ((p : Piece) → Memᴰ p (pieces_of s cuts) → (length_of g p ≤ maximum) ⊎ IsSingle p)
      → DemandByLength g s maximum cuts
  demand_length maximum cuts d each =
      record { divides = d; single = λ p m over. elim (each p m) [ inl h ↦ absurd (omega (arith, h, over)) | inr h ↦ h ] }

-- ---- what completion by count leaves: cuts at places, among them those of the greedy division within the reach and those of equal shares

module _ (g : FrameGrid) (ok : Accepted g) (s : Span) (spread : Spread s.first s.gaps s.last) (count : ℕ) (some : 0 < count)
    (all : List Cut) (divides : Division s all) (shares : Among (shares_of s (pieces_asked s count)) all) where
  pieces_some : 0 < pieces_asked s count
  pieces_some = asked_some s spread count some

  -- they suffice for min(N, kept frames) pieces
  pub shares_suffice : pieces_asked s count ≤ length (pieces_of s all)
  shares_suffice =
      let fit : pieces_asked s count ≤ kept_in s = omega arith in
      subst (λ (n : ℕ). n ≤ length (pieces_of s all)) (shares_count s spread (pieces_asked s count) pieces_some fit)
      (fewer_cuts s (shares_of s (pieces_asked s count)) all (shares_divide s spread (pieces_asked s count) pieces_some fit) divides shares)

  -- so a path over them by count has as many
  pub pieces_asked_lem : min count (length (pieces_of s all)) ≡ pieces_asked s count
  pieces_asked_lem = omega (arith, shares_suffice, at_most_kept s spread all divides)
