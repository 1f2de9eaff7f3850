-- The candidates of a plan in their order: from one end of the span to the other, each apart from the next, in boundaries and in samples.
use Rattle.std.specs.Prelude.{◌≡◌, Float}
use Rattle.std.proofs.Math.Path.{refl}
use Rattle.std.proofs.Common.{ap, ◌∙◌, inl, inr, le_of_eq, le_of_lt, eq-or-lt_of_le}
use mathlib.Core.List.{List, [], ◌∷◌, ◌++◌, Memᴰ}
use Prim.Native.Nat.{ℕ, zero, suc, ◌-◌, ◌≤◌, ◌<◌}
use native.Mathlib.Omega.{arith}
use Rattle.std.proofs.Math.ListN.{length, length-append}
use Rattle.grid.specs.declared.boundary.FrameGrid.{FrameGrid}
use Rattle.grid.specs.Boundary.{boundary_of}
use Rattle.grid.specs.BoundaryLaws.{Accepted, boundary_above}
use Rattle.candidate_span.specs.SpanLaws.{ends_order}
use Rattle.candidates.specs.declared.candidate.Candidate.{Candidate}
use Rattle.candidates.specs.declared.context.Context.{Context}
use Rattle.candidates.specs.Candidates.{node, all_listed, candidates_inside, candidates_of}
use Rattle.candidates.specs.Members.{candidate_at}
use Rattle.candidates.specs.Sources.{Planned, Source, own, point, listed_source, point-ends, own_inside, sources_apart}
use Rattle.candidates.specs.Row.{InRow, Apart, survivors_in_row, row_within, row_apart, survivors_few}

snoc_last : (c : Candidate) (cs : List Candidate) (d : Candidate) → candidate_at (c ∷ (cs ++ (d ∷ []))) (length (cs ++ (d ∷ []))) ≡ d
snoc_last c [] d = refl
snoc_last c (e ∷ cs) d = snoc_last e cs d

module _ (x : Context) (ss runs : List ℕ) (levels : List Float) (ks : List ℕ) (first last : ℕ) where
  -- the candidates
  abbrev cs : List Candidate
  cs = candidates_of x ss runs levels ks first last

  -- those between the two ends
  abbrev inner : List Candidate
  inner = candidates_inside x ss runs levels ks first last

  -- the first candidate is the span's first end
  pub candidates-first : candidate_at cs 0 ≡ node first
  unfolding candidates_of
  candidates-first = refl

  -- the last is its other end
  pub candidates-last : candidate_at cs (length cs - 1) ≡ node last
  unfolding candidates_of
  candidates-last = let e : suc (length (inner ++ (node last ∷ []))) - 1 ≡ length (inner ++ (node last ∷ [])) = omega arith in rw e (snoc_last (node first) inner (node last))

  -- there are these two at least
  pub candidates_some : 2 ≤ length cs
  unfolding candidates_of
  candidates_some = omega (arith, length-append inner (node last ∷ []))

  -- and one for each boundary of the span at most
  pub candidates_few : first < last → length cs ≤ suc (last - first)
  unfolding candidates_of
  candidates_few h = omega (arith, length-append inner (node last ∷ []), survivors_few (all_listed x ss runs levels ks) (last - suc first) first)

  module _ (p : Planned x ss levels ks first last) where
    -- the ends of the span are in order, and within the frame count
    pub span-ends : (first < last) × (last ≤ x.padding.frames)
    span-ends = let e = ends_order x.gap x.padding ss p.prepared.spanned in (rw (p.starts, p.stops) e.0, rw p.stops e.1)

    source_inside : (c : Candidate) → Source x ss runs levels ks c → c.left < last → (c.left ≤ c.right) × (c.right < last)
    source_inside c (own i a e) h = let w = own_inside x ss runs levels ks first last p i a in rw e (w.1, w.2)
    source_inside c (point k t e) h =
        let r = point-ends x ss runs levels ks k in
        let l : c.left ≡ k = ap (λ (d : Candidate). d.left) e ∙ r.0 in
        let q : c.right ≡ k = ap (λ (d : Candidate). d.right) e ∙ r.1 in
        (omega arith, omega arith)

    all_apart : Apart (all_listed x ss runs levels ks) first last
    all_apart =
        record {
          inside = λ (c : Candidate) (m : Memᴰ c (all_listed x ss runs levels ks)) (f : first < c.left) (l : c.left < last). source_inside c (listed_source x ss runs levels ks c m) l;
          later = λ (c d : Candidate) (m : Memᴰ c (all_listed x ss runs levels ks)) (n : Memᴰ d (all_listed x ss runs levels ks)) (f : first < c.left) (h : c.left < d.left) (l : d.left < last).
              sources_apart x ss runs levels ks first last p c d (listed_source x ss runs levels ks c m) (listed_source x ss runs levels ks d n) h (omega arith) l;
        }

    spaced : InRow first inner last
    spaced = survivors_in_row (all_listed x ss runs levels ks) first last all_apart span-ends.0

    -- each candidate's ends are boundaries of the span
    pub candidate_within : (i : ℕ) → i < length cs
        → (first ≤ (candidate_at cs i).left) × ((candidate_at cs i).left ≤ (candidate_at cs i).right) × ((candidate_at cs i).right ≤ last)
    unfolding candidates_of
    candidate_within zero h = (omega arith, omega arith, omega (arith, span-ends.0))
    candidate_within (suc i) h = let w = row_within last (node 0) first inner i spaced (omega arith) in (omega (arith, w.0), w.1, w.2)

    -- a candidate ends before any later one starts
    pub candidates_apart : (i j : ℕ) → i < j → j < length cs → (candidate_at cs i).right < (candidate_at cs j).left
    unfolding candidates_of
    candidates_apart i zero h l = absurd (omega arith)
    candidates_apart zero (suc j) h l = (row_within last (node 0) first inner j spaced (omega arith)).0
    candidates_apart (suc i) (suc j) h l = row_apart last (node 0) first inner i j spaced (omega arith) (omega arith)

    -- so left ends rise strictly
    pub candidates_rise : (i j : ℕ) → i < j → j < length cs → (candidate_at cs i).left < (candidate_at cs j).left
    candidates_rise i j h l = omega (arith, (candidate_within i (omega arith)).1, candidates_apart i j h l)

    -- ---- in samples

    module _ (g : FrameGrid) (accepted : Accepted g) (same : g.frames ≡ x.padding.frames) where
      positioned : (j k : ℕ) → j < k → k ≤ last → boundary_of g j < boundary_of g k
      positioned j k h l = boundary_above g accepted j k h (omega (arith, span-ends.1))

      -- a candidate's left position is not above its right one
      pub position_order : (i : ℕ) → i < length cs → boundary_of g (candidate_at cs i).left ≤ boundary_of g (candidate_at cs i).right
      position_order i h =
          let c = candidate_at cs i in
          let w = candidate_within i h in
          elim (eq-or-lt_of_le w.1) [ inl e ↦ le_of_eq (ap (boundary_of g) e) | inr l ↦ le_of_lt (positioned c.left c.right l w.2) ]

      -- its right position is below the left ones of later candidates
      pub positions_apart : (i j : ℕ) → i < j → j < length cs → boundary_of g (candidate_at cs i).right < boundary_of g (candidate_at cs j).left
      positions_apart i j h l =
          let w = candidate_within j l in
          positioned (candidate_at cs i).right (candidate_at cs j).left (candidates_apart i j h l) (omega (arith, w.1, w.2))

      -- and left positions rise strictly
      pub positions_rise : (i j : ℕ) → i < j → j < length cs → boundary_of g (candidate_at cs i).left < boundary_of g (candidate_at cs j).left
      positions_rise i j h l =
          let w = candidate_within j l in
          positioned (candidate_at cs i).left (candidate_at cs j).left (candidates_rise i j h l) (omega (arith, w.1, w.2))
