-- The greedy division tells whether a limit is feasible: so the feasible limits from the maximum up have a least one, if there is any, and there is.
use Rattle.std.specs.Prelude.{◌≡◌, ◌⊎◌, ℕ, zero, suc, ◌+◌, ◌≤◌, ◌<◌, max, length}
use Rattle.std.proofs.Common.{subst, inl, inr, arith}
use mathlib.Core.List.{List}
use Rattle.base_laws.specs.Tests.{lt_or_le}
use Rattle.grid.specs.BoundaryLaws.{Accepted}
use Rattle.grid.specs.declared.boundary.FrameGrid.{FrameGrid}
use Rattle.candidate_span.specs.Gaps.{Cut, Spread}
use Rattle.candidate_span.specs.Span.{Span}
use Rattle.division.specs.Division.{pieces_asked, Division, Among}
use Rattle.division.specs.Pieces.{pieces_of, longest}
use Rattle.division.specs.Refine.{Refined}
use Rattle.division.specs.RefineLaws.{more-cuts, refine}
use Rattle.division.specs.Greedy.{Greedy}
use Rattle.division.specs.GreedyLaws.{greedy_divides, greedy_within}
use Rattle.division.specs.Reach.{Feasible, IsReach, span_length, HasReach}
use Rattle.division.specs.ReachLaws.{feasible_above, reach-maximum, span_feasible}
use Rattle.division.specs.Shares.{shares_of}
use Rattle.division.specs.DemandLaws.{shares_suffice}
use Rattle.division.proofs.AheadLaws.{greedy_fewest}
use Rattle.division.proofs.GreedyFound.{greedy_found}

module _ (g : FrameGrid) (ok : Accepted g) (s : Span) (spread : Spread s.first s.gaps s.last) (count : ℕ) where
  -- the greedy division of a feasible limit has at most min(N, kept frames) pieces
  pub feasible_greedy : (limit : ℕ) (ks : List Cut) → Greedy g s limit ks → Feasible g s count limit → length (pieces_of s ks) ≤ pieces_asked s count
  feasible_greedy limit ks far f = omega (arith, greedy_fewest g ok s spread limit ks f.cuts far f.divides f.within, f.few)

  -- it tells whether a limit is feasible
  pub feasible_told : (limit : ℕ) → Feasible g s count limit ⊎ (Feasible g s count limit → ⊥)
  feasible_told limit = go (greedy_found g ok s spread limit)
    where
      told : (ks : List Cut) → Greedy g s limit ks → (pieces_asked s count < length (pieces_of s ks)) ⊎ (length (pieces_of s ks) ≤ pieces_asked s count)
          → Feasible g s count limit ⊎ (Feasible g s count limit → ⊥)
      told ks far (inl l) = inr (λ f. omega (arith, l, feasible_greedy limit ks far f))
      told ks far (inr l) =
          inl (record { cuts = ks; divides = greedy_divides g ok s spread limit ks far; few = l; within = greedy_within g ok s spread limit ks far })

      go : ((ks : List Cut) × Greedy g s limit ks) ⊎ ((ks : List Cut) → Division s ks → limit < longest g (pieces_of s ks))
          → Feasible g s count limit ⊎ (Feasible g s count limit → ⊥)
      go (inl t) = told t.0 t.1 (lt_or_le (pieces_asked s count) (length (pieces_of s t.0)))
      go (inr n) = inr (λ f. omega (arith, n f.cuts f.divides, f.within))

  -- down from a feasible limit, n above the maximum
  reach_below : (maximum n : ℕ) → Feasible g s count (maximum + n) → (limit : ℕ) × IsReach g s count maximum limit
  reach_below maximum zero f =
      let e : maximum + 0 ≡ maximum = omega arith in
      (maximum, reach-maximum g s count maximum (subst (Feasible g s count) e f))
  reach_below maximum (suc n) f = go (feasible_told (maximum + n)) (reach_below maximum n)
    where
      here : (Feasible g s count (maximum + n) → ⊥) → (l : ℕ) → Feasible g s count l → maximum + suc n ≤ l
      here never l e = elim (lt_or_le (maximum + n) l) [ inl h ↦ omega (arith, h) | inr h ↦ absurd (never (feasible_above g s count l (maximum + n) h e)) ]

      go : Feasible g s count (maximum + n) ⊎ (Feasible g s count (maximum + n) → ⊥) → (Feasible g s count (maximum + n) → (limit : ℕ) × IsReach g s count maximum limit)
          → (limit : ℕ) × IsReach g s count maximum limit
      go (inl e) rest = rest e
      go (inr never) rest = (maximum + suc n, record { above = omega arith; feasible = f; least = λ l h e. here never l e })

  -- where any limit is feasible, there is a reach
  pub reach-found : (maximum l : ℕ) → Feasible g s count l → (limit : ℕ) × IsReach g s count maximum limit
  reach-found maximum l f = reach_below maximum l (feasible_above g s count l (maximum + l) (omega arith) f)

  -- and so there is one
  pub reach_exists : 0 < count → (maximum : ℕ) → HasReach g s count maximum
  reach_exists some maximum =
      let longer = max (span_length g s) maximum in
      let f = span_feasible g s spread count some longer (omega arith) in
      let t = reach-found maximum longer f in
      let most = t.1.least longer (omega arith) f in
      record { limit = t.0; reach = t.1; most = most; long = λ h. omega (arith, h, most, t.1.above) }

-- ---- what completion by count leaves: cuts at places, among them those of the greedy division within the reach and those of equal shares

module _ (g : FrameGrid) (ok : Accepted g) (s : Span) (spread : Spread s.first s.gaps s.last) (count : ℕ) (some : 0 < count)
    (all : List Cut) (divides : Division s all) (shares : Among (shares_of s (pieces_asked s count)) all) where
  -- one of the paths over them into exactly as many pieces as were asked for keeps the reach
  pub reach_kept : (maximum reach : ℕ) (far : List Cut) → IsReach g s count maximum reach → Greedy g s reach far → Among far all
      → (r : Refined s far all (pieces_asked s count)) × (longest g (pieces_of s r.cuts) ≤ reach)
  reach_kept maximum reach far r greedy held =
      let d = greedy_divides g ok s spread reach far greedy in
      let t = refine s far all d divides held (pieces_asked s count) (feasible_greedy g ok s spread count reach far greedy r.feasible) (shares_suffice g ok s spread count some all divides shares) in
      (t, omega (arith, more-cuts g ok s far t.cuts d t.divides t.over, greedy_within g ok s spread reach far greedy))
