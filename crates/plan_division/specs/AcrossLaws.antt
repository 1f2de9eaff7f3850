-- Candidates lie apart in rising order, and those between the ends are places: so the cuts along a path are a division, and a place whose left end a candidate has is that candidate.
use Rattle.std.specs.Prelude.{◌≡◌, refl, ◌⊎◌, true, ℕ, zero, suc, ◌+◌, ◌-◌, ◌≤◌, ◌<◌, Float, length}
use Rattle.std.proofs.Common.{sym, ap, subst, ◌∙◌, inl, inr, arith}
use mathlib.Core.List.{List, [], ◌∷◌, Memᴰ}
use Rattle.base_laws.specs.Tests.{lt_or_le}
use Rattle.path_rules.specs.Paths.{Onward}
use Rattle.candidate_span.specs.Gaps.{Cut, Spread}
use Rattle.candidate_span.specs.KeptIn.{Outside, kept_in_lem, kept_of}
use Rattle.candidate_span.specs.GapsLaws.{gaps_inside}
use Rattle.candidate_span.specs.Span.{Span, span_of}
use Rattle.candidate_points.specs.Points.{is_in}
use Rattle.division.specs.Division.{Place, boundary, gap, Row, Division, Among}
use Rattle.division.specs.PlacesLaws.{place_inside, places_apart}
use Rattle.candidates.specs.declared.candidate.Candidate.{Candidate}
use Rattle.candidates.specs.declared.context.Context.{Context}
use Rattle.candidates.specs.Candidates.{candidates_of}
use Rattle.candidates.specs.Sources.{Planned}
use Rattle.candidates.specs.Order.{candidates-first, candidates-last, candidates_some, candidate_within, candidates_apart}
use Rattle.candidates.specs.Found.{point-found}
use Rattle.candidates.specs.Alone.{gap_dropped, dropped-found, gap_alone}
use Rattle.plan_division.specs.Along.{ends_at, cuts_at, cuts_along, RisingPath, numbers_after, whole_path, all_cuts}
use Rattle.plan_division.specs.AlongLaws.{onward-last, cut-number}
use Rattle.plan_division.specs.Across.{HasLeft, HasCut, Across}

-- ---- every path is a division

module _ (s : Span) (cs : List Candidate) (p : Across s cs) where
  path_row : (i j : ℕ) (rest : List ℕ) (last : ℕ) → last < length cs → Onward (λ (a b : ℕ). a < b) i (j ∷ rest) last
      → Row (ends_at cs i).right (cuts_at cs (j ∷ rest)) (ends_at cs last).left
  path_row i j [] last l (h, e) = p.apart i last (omega arith) l
  path_row i j (k ∷ rest) last l (h, r) =
      let b : j < length cs = omega (arith, l, onward-last j (k ∷ rest) last r) in
      (p.apart i j h b, p.inside j b, path_row j k rest last l r)

  -- any path of rising candidates, from the first to the last
  pub along_divides : (path : List ℕ) → RisingPath cs path → Division s (cuts_along cs path)
  along_divides [] r = absurd r
  along_divides (i ∷ []) (e, q) = absurd (omega (arith, e, q, p.some))
  along_divides (i ∷ (j ∷ rest)) (e, r) = record { rises = rises; placed = placed }
    where
      rises : Row s.first (cuts_at cs (j ∷ rest)) s.last
      rises =
          subst (λ (a : ℕ). Row a (cuts_at cs (j ∷ rest)) s.last) (ap (λ (n : ℕ). (ends_at cs n).right) e ∙ p.starts)
          (subst (λ (z : ℕ). Row (ends_at cs i).right (cuts_at cs (j ∷ rest)) z) p.stops (path_row i j rest (length cs - 1) (omega (arith, p.some)) r))

      placed : (k : Cut) → Memᴰ k (cuts_at cs (j ∷ rest)) → Place s k
      placed k m =
          let f = cut-number cs i (j ∷ rest) (length cs - 1) k r m in
          subst (Place s) (sym f.3) (p.placed f.0 (omega (arith, f.1)) (omega (arith, f.2)))

  -- ---- all of them

  numbers_rise : (n a z : ℕ) → a + n ≡ z → Onward (λ (i j : ℕ). i < j) a (numbers_after a n) z
  numbers_rise zero a z e = omega arith
  numbers_rise (suc n) a z e = (omega arith, numbers_rise n (suc a) z (omega arith))

  -- the path through all candidates rises
  pub whole_rises : RisingPath cs (whole_path cs)
  whole_rises = (refl, numbers_rise (length cs - 1) 0 (length cs - 1) (omega arith))

  -- all candidates between the ends are a division
  pub all_divides : Division s (all_cuts cs)
  all_divides = along_divides (whole_path cs) whole_rises

  numbers_length : (n a : ℕ) → length (numbers_after a n) ≡ n
  numbers_length zero a = refl
  numbers_length (suc n) a = ap suc (numbers_length n (suc a))

  -- that path has every candidate
  pub whole_length : length (whole_path cs) ≡ length cs
  whole_length = omega (arith, numbers_length (length cs - 1) 0, p.some)

  number_in : (n a i : ℕ) → a < i → i < a + n → Memᴰ (ends_at cs i) (cuts_at cs (numbers_after a n))
  number_in zero a i h l = absurd (omega arith)
  number_in (suc zero) a i h l = absurd (omega arith)
  number_in (suc (suc n)) a i h l = elim (lt_or_le (suc a) i) [
    | inl q ↦ Memᴰ.tail (number_in (suc n) (suc a) i q (omega arith))
    | inr q ↦
        let e : i ≡ suc a = omega arith in
        Memᴰ.head (ap (ends_at cs) e)
  ]

  -- which has every cut that a candidate is
  pub has_all : (k : Cut) → HasCut cs k → Memᴰ k (all_cuts cs)
  has_all k c = subst (λ (j : Cut). Memᴰ j (all_cuts cs)) c.is (number_in (length cs - 1) 0 c.number c.after (omega (arith, c.before)))

  -- and no other
  pub all_has : (k : Cut) → Memᴰ k (all_cuts cs) → HasCut cs k
  all_has k m =
      let f = cut-number cs 0 (numbers_after 0 (length cs - 1)) (length cs - 1) k whole_rises.1 m in
      record { number = f.0; after = f.1; before = omega (arith, f.2); is = sym f.3 }

  -- ---- a place with the left end of a candidate is that candidate

  -- a place whose left end a candidate has is that candidate
  pub left_cut : Spread s.first s.gaps s.last → (k : Cut) → Place s k → HasLeft cs k.left → HasCut cs k
  left_cut spread k q f = record { number = f.number; after = after; before = before; is = same }
    where
      within : (s.first < k.left) × (k.left ≤ k.right) × (k.right < s.last)
      within = place_inside s spread k q

      after : 0 < f.number
      after = elim (lt_or_le 0 f.number) [ inl h ↦ h | inr h ↦ absurd (first (omega arith)) ]
        where
          first : f.number ≡ 0 → ⊥
          first e = omega (arith, f.at, ap (λ (n : ℕ). (ends_at cs n).left) e, p.inside 0 (omega (arith, p.some)), p.starts, within.0)

      before : suc f.number < length cs
      before = elim (lt_or_le (suc f.number) (length cs)) [ inl h ↦ h | inr h ↦ absurd (last (omega (arith, f.counted))) ]
        where
          last : f.number ≡ length cs - 1 → ⊥
          last e = omega (arith, f.at, ap (λ (n : ℕ). (ends_at cs n).left) e, p.stops, within.1, within.2)

      same : ends_at cs f.number ≡ k
      same = elim (places_apart s spread (ends_at cs f.number) k (p.placed f.number after before) q (omega (arith, f.at, within.1))) [
        | inl h ↦ absurd (omega (arith, h, f.at, p.inside f.number f.counted))
        | inr e ↦ e
      ]

  -- so every dropped gap is among them
  pub gaps_all : Spread s.first s.gaps s.last → Among s.gaps (all_cuts cs)
  gaps_all spread k m = has_all k (left_cut spread k (gap m) (p.gaps k m))

-- ---- a plan's candidates

module _ (x : Context) (ss runs : List ℕ) (levels : List Float) (ks : List ℕ) (first last : ℕ) (p : Planned x ss levels ks first last) where
  abbrev cs : List Candidate
  cs = candidates_of x ss runs levels ks first last

  abbrev span : Span
  span = span_of x.gap x.padding ss

  -- a candidate between the ends is a kept boundary or a dropped gap
  candidate_placed : (i : ℕ) → 0 < i → suc i < length cs → Place span (ends_at cs i)
  candidate_placed i h l = go (lt_or_le (ends_at cs i).left (ends_at cs i).right)
    where
      ordered : (ends_at cs i).left ≤ (ends_at cs i).right
      ordered = (candidate_within x ss runs levels ks first last p i (omega arith)).1

      from : span.first < (ends_at cs i).left
      from =
          let e = ap (λ (c : Candidate). c.right) (candidates-first x ss runs levels ks first last) in
          omega (arith, candidates_apart x ss runs levels ks first last p 0 i h (omega arith), e, p.starts)

      to : (ends_at cs i).left < span.last
      to =
          let e = ap (λ (c : Candidate). c.left) (candidates-last x ss runs levels ks first last) in
          omega (arith, ordered, candidates_apart x ss runs levels ks first last p i (length cs - 1) (omega arith) (omega arith), e, p.stops)

      clear : (ends_at cs i).right ≤ (ends_at cs i).left → Outside span.gaps (ends_at cs i).left
      clear d j m = elim (gap_alone x ss runs levels ks first last p j m i (omega arith)) [
        | inl e ↦
            let w = gaps_inside x.gap x.padding ss p.prepared.spanned j m in
            absurd (omega (arith, d, w.1, ap (λ (c : Cut). c.left) e, ap (λ (c : Cut). c.right) e))
        | inr w ↦ elim w [ inl a ↦ inl (omega (arith, a, ordered)) | inr a ↦ inr a ]
      ]

      go : ((ends_at cs i).left < (ends_at cs i).right) ⊎ ((ends_at cs i).right ≤ (ends_at cs i).left) → Place span (ends_at cs i)
      go (inl d) = gap (gap_dropped x ss runs levels ks first last p i (omega arith) d)
      go (inr d) = boundary {k = ends_at cs i} (omega (arith, d, ordered)) (kept_in_lem span.first span.gaps span.last (ends_at cs i).left from to (clear d))

  gap_left : (k : Cut) → Memᴰ k span.gaps → HasLeft cs k.left
  gap_left k m =
      let f = dropped-found x ss runs levels ks first last p k m in
      record { number = f.number; counted = f.counted; at = ap (λ (c : Cut). c.left) f.is }

  -- they are what demand 3 needs
  pub planned_across : Across span cs
  planned_across =
      record {
        some = candidates_some x ss runs levels ks first last;
        starts = ap (λ (c : Candidate). c.right) (candidates-first x ss runs levels ks first last) ∙ p.starts;
        stops = ap (λ (c : Candidate). c.left) (candidates-last x ss runs levels ks first last) ∙ p.stops;
        inside = λ (i : ℕ) (h : i < length cs). (candidate_within x ss runs levels ks first last p i h).1;
        apart = candidates_apart x ss runs levels ks first last p;
        placed = candidate_placed;
        gaps = gap_left;
      }

  -- every place has its candidate that is a gap, or a boundary with a point
  pub place_found : (k : Cut) → Place span k → (k.left ≡ k.right → is_in ks k.left ≡ true) → HasLeft cs k.left
  place_found k (gap m) f = gap_left k m
  place_found k (boundary e m) f =
      let w = kept_of span.first span.gaps span.last k.left m in
      let r = point-found x ss runs levels ks first last k.left (f e) (rw p.starts w.0) (rw p.stops w.1) in
      record { number = r.number; counted = r.counted; at = r.at }
