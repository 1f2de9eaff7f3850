-- Each step is that of the greedy division, which exists and has few enough pieces exactly where the limit is feasible.
use Rattle.std.specs.Prelude.{◌≡◌, ◌⊎◌, Bool, false, length}
use Rattle.std.proofs.Math.Path.{refl, ap}
use Rattle.std.proofs.Common.{sym, ◌∙◌, inl, inr}
use Rattle.std.proofs.Math.Bool.{true}
use mathlib.Core.List.{List, [], ◌∷◌}
use Prim.Native.Nat.{ℕ, zero, suc, ◌-◌, ◌≤◌, ◌<◌}
use native.Mathlib.Omega.{arith}
use Rattle.base_laws.specs.Tests.{unmet}
use Rattle.grid.specs.BoundaryLaws.{Accepted}
use Rattle.grid.specs.declared.boundary.FrameGrid.{FrameGrid}
use Rattle.candidate_span.specs.Gaps.{Cut, Spread}
use Rattle.candidate_span.specs.GapsLaws.{spread_ends}
use Rattle.candidate_span.specs.Span.{Span}
use Rattle.division.specs.Division.{pieces_asked, Division}
use Rattle.division.specs.Pieces.{pieces_of, longest}
use Rattle.division.specs.PiecesLaws.{pieces_count}
use Rattle.division.specs.PlacesLaws.{place_inside}
use Rattle.division.specs.Greedy.{GreedyFrom, Greedy}
use Rattle.division.specs.GreedyLaws.{MayBegin, start_first, start_right, farthest_one, greedy_divides, greedy_within}
use Rattle.division.proofs.GreedyFound.{greedy_found}
use Rattle.division.specs.Reach.{Feasible}
use Rattle.division.proofs.ReachFound.{feasible_greedy}
use Rattle.completion_reach.specs.declared.next.Next.{Next}
use Rattle.completion_reach.specs.declared.next.Next.TheVariants.{Whole, Stuck, To}
use Rattle.completion_reach.specs.Next.{next_cut_of}
use Rattle.completion_reach.specs.NextLaws.{Stepped, next_stepped}
use Rattle.completion_reach.specs.declared.place.HeldCut.{HeldCut}
use Rattle.completion_reach.specs.Place.{cut_held}
use Rattle.completion_reach.specs.Cuts.{cutting, greedy_cuts_from, cuts_of}
use Rattle.completion_reach.specs.Fits.{onward, fits_from, fits_of}

-- ---- one step of the loop, from boundary a with n pieces left

module _ (g : FrameGrid) (s : Span) (limit n a : ℕ) (some : 0 < n) (next : Next) (is : next ≡ next_cut_of g s limit a) where
  more : fits_from g s limit n a ≡ onward next (fits_from g s limit (n - 1))
  unfolding fits_from
  more =
      let e : n ≡ suc (n - 1) = omega arith in
      ap (λ (m : ℕ). fits_from g s limit m a) e ∙ ap (λ (t : Next). onward t (fits_from g s limit (n - 1))) (sym is)

  pub fits_whole : next ≡ Whole → fits_from g s limit n a ≡ true
  fits_whole e = more ∙ ap (λ (t : Next). onward t (fits_from g s limit (n - 1))) e

  pub fits_stuck : next ≡ Stuck → fits_from g s limit n a ≡ false
  fits_stuck e = more ∙ ap (λ (t : Next). onward t (fits_from g s limit (n - 1))) e

  pub fits-to : (c : HeldCut) → next ≡ To c → fits_from g s limit n a ≡ fits_from g s limit (n - 1) c.right
  fits-to c e = more ∙ ap (λ (t : Next). onward t (fits_from g s limit (n - 1))) e

pub fits-none : (g : FrameGrid) (s : Span) (limit n a : ℕ) → n ≤ 0 → fits_from g s limit n a ≡ false
unfolding fits_from
fits-none g s limit zero a h = refl
fits-none g s limit (suc n) a h = absurd (omega arith)

-- ---- the steps are those of the greedy division

module _ (g : FrameGrid) (ok : Accepted g) (s : Span) (spread : Spread s.first s.gaps s.last) (limit : ℕ) where
  -- from boundary a on the steps make the cuts of the greedy division, which has at most n pieces
  gone_from : (n a : ℕ) → s.first ≤ a → a < s.last → MayBegin s a → fits_from g s limit n a ≡ true → GreedyFrom g s limit a (greedy_cuts_from g s limit n a) × (length (greedy_cuts_from g s limit n a) < n)
  unfolding fits_from greedy_cuts_from
  gone_from zero a from to start e = unmet e
  gone_from (suc n) a from to start e =
      go (next_cut_of g s limit a) (next_stepped g ok s spread limit a from to start) e (λ r i j k h. gone_from n r i j k h)
    where
      go : (t : Next) → Stepped g s limit a t → onward t (fits_from g s limit n) ≡ true
          → ((r : ℕ) → s.first ≤ r → r < s.last → MayBegin s r → fits_from g s limit n r ≡ true → GreedyFrom g s limit r (greedy_cuts_from g s limit n r) × (length (greedy_cuts_from g s limit n r) < n))
          → GreedyFrom g s limit a (cutting t (greedy_cuts_from g s limit n)) × (length (cutting t (greedy_cuts_from g s limit n)) < suc n)
      go Whole p h rest = (p, omega arith)
      go Stuck p h rest = unmet h
      go (To c) p h rest =
          let i = place_inside s spread (cut_held c) p.1.place in
          let t = rest c.right (omega (arith, i.0, i.1)) i.2 (start_right g ok s spread (cut_held c) p.1.place) h in
          ((p.0, p.1, t.0), omega (arith, t.1))

  fits_from_lem : (n a : ℕ) (ks : List Cut) → s.first ≤ a → a < s.last → MayBegin s a → GreedyFrom g s limit a ks → length ks < n → fits_from g s limit n a ≡ true
  unfolding fits_from
  fits_from_lem zero a ks from to start far h = absurd (omega arith)
  fits_from_lem (suc n) a [] from to start far h = go (next_cut_of g s limit a) (next_stepped g ok s spread limit a from to start)
    where
      go : (t : Next) → Stepped g s limit a t → onward t (fits_from g s limit n) ≡ true
      go Whole p = refl
      go Stuck p = absurd (omega (arith, far, p.0))
      go (To c) p = absurd (omega (arith, far, p.0))
  fits_from_lem (suc n) a (k ∷ ks) from to start far h =
      go (next_cut_of g s limit a) (next_stepped g ok s spread limit a from to start)
      (fits_from_lem n k.right ks (omega (arith, inside.0, inside.1)) inside.2 (start_right g ok s spread k far.1.place) far.2 (omega arith))
    where
      inside : (s.first < k.left) × (k.left ≤ k.right) × (k.right < s.last)
      inside = place_inside s spread k far.1.place

      go : (t : Next) → Stepped g s limit a t → fits_from g s limit n k.right ≡ true → onward t (fits_from g s limit n) ≡ true
      go Whole p e = absurd (omega (arith, far.0, p))
      go Stuck p e = absurd (omega (arith, far.1.within, p.1 k far.1.place far.1.after))
      go (To c) p e =
          ap (λ (j : Cut). fits_from g s limit n j.right) (farthest_one g ok s spread limit a (cut_held c) k p.1 far.1) ∙ e

  whole : s.first < s.last
  whole = spread_ends s.first s.gaps s.last spread

  -- where n pieces fit, the steps make the greedy division, of n pieces at most
  pub fits_greedy : (n : ℕ) → fits_of g s limit n ≡ true → Greedy g s limit (cuts_of g s limit n) × (length (pieces_of s (cuts_of g s limit n)) ≤ n)
  fits_greedy n e =
      let t = gone_from n s.first (omega arith) whole (start_first g ok s spread) e in
      (t.0, omega (arith, pieces_count s.first (cuts_of g s limit n) s.last, t.1))

  -- what fits is feasible
  pub fits_feasible : (count : ℕ) → fits_of g s limit (pieces_asked s count) ≡ true → Feasible g s count limit
  fits_feasible count e =
      let ks = cuts_of g s limit (pieces_asked s count) in
      let t = fits_greedy (pieces_asked s count) e in
      record { cuts = ks; divides = greedy_divides g ok s spread limit ks t.0; few = t.1; within = greedy_within g ok s spread limit ks t.0 }

  -- and what is feasible fits
  pub feasible_fits : (count : ℕ) → Feasible g s count limit → fits_of g s limit (pieces_asked s count) ≡ true
  feasible_fits count f = go (greedy_found g ok s spread limit)
    where
      go : ((ks : List Cut) × Greedy g s limit ks) ⊎ ((ks : List Cut) → Division s ks → limit < longest g (pieces_of s ks)) → fits_of g s limit (pieces_asked s count) ≡ true
      go (inl t) =
          fits_from_lem (pieces_asked s count) s.first t.0 (omega arith) whole (start_first g ok s spread) t.1
          (omega (arith, pieces_count s.first t.0 s.last, feasible_greedy g ok s spread count limit t.0 t.1 f))
      go (inr n) = absurd (omega (arith, n f.cuts f.divides, f.within))

  -- so what does not fit is not feasible
  pub unfit_infeasible : (count : ℕ) → fits_of g s limit (pieces_asked s count) ≡ false → Feasible g s count limit → ⊥
  unfit_infeasible count e f = unmet (sym e ∙ feasible_fits count f)

  -- ---- as code tells it, with the pieces that are asked for

  module _ (count pieces : ℕ) (number : pieces ≡ pieces_asked s count) (r : Bool) (is : r ≡ fits_of g s limit pieces) where
    same : fits_of g s limit (pieces_asked s count) ≡ r
    same = sym (is ∙ ap (fits_of g s limit) number)

    pub told_feasible : r ≡ true → Feasible g s count limit
    told_feasible e = fits_feasible count (same ∙ e)

    pub told_infeasible : r ≡ false → Feasible g s count limit → ⊥
    told_infeasible e = unfit_infeasible count (same ∙ e)
