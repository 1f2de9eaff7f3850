-- What a plan's candidates are: its two ends, and between them points and silences' own, one at each left end that is listed.
use Rattle.std.specs.Prelude.{◌≡◌, refl, ◌⊎◌, true, Float}
use Rattle.std.proofs.Common.{sym, ap, ◌∙◌, arith}
use Rattle.std.proofs.Math.Path.{subst}
use Rattle.std.proofs.Math.Logic.{inl, inr}
use mathlib.Core.List.Memᴰ
use mathlib.Core.List.{List, [], ◌∷◌, Memᴰ}
use Prim.Native.Nat.{ℕ, zero, suc, ◌-◌, ◌<◌}
use Rattle.std.proofs.Math.ListN.{length, length-append, get_or-append}
use Rattle.candidate_span.specs.Kept.{boundaries}
use Rattle.candidate_span.specs.KeptIn.{in_boundaries, of_boundaries}
use Rattle.candidate_points.specs.Points.{is_in}
use Rattle.candidates.specs.declared.candidate.Candidate.{Candidate}
use Rattle.candidates.specs.declared.context.Context.{Context}
use Rattle.candidates.specs.Candidates.{node, point_at, all_listed, candidates_inside, candidates_of}
use Rattle.candidates.specs.Members.{candidate_at, at_member, member_at, survivor_of, survivor_found}
use Rattle.candidates.specs.Sources.{Planned, Source, own, point, listed_source, source_listed, point-ends, own_inside}

module _ (x : Context) (ss runs : List ℕ) (levels : List Float) (ks : List ℕ) (first last : ℕ) where
  -- the candidates
  abbrev cs : List Candidate
  cs = candidates_of x ss runs levels ks first last

  -- boundaries strictly inside the span
  pub inside_span : (k : ℕ) → Memᴰ k (boundaries first (last - suc first)) → (first < k) × (k < last)
  inside_span k m = let i = of_boundaries first (last - suc first) k m in (i.0, omega (arith, i.0, i.1))

  -- what holds of both ends, and of what is listed strictly inside the span, holds of every candidate
  pub candidate_every : (P : Candidate → Type 0) → P (node first) → P (node last) → ((c : Candidate) → Source x ss runs levels ks c → first < c.left → c.left < last → P c)
      → (c : Candidate) → Memᴰ c cs → P c
  unfolding candidates_of
  candidate_every P a z f c m = elim (Memᴰ.cases_cons m) [ inl e ↦ subst P (sym e) a | inr i ↦ rest (Memᴰ.append_cases (candidates_inside x ss runs levels ks first last) i) ]
    where
      inner : Memᴰ c (candidates_inside x ss runs levels ks first last) → P c
      inner i =
          let q = survivor_of (all_listed x ss runs levels ks) (boundaries first (last - suc first)) c i in
          let w = inside_span c.left q.1 in
          f c (listed_source x ss runs levels ks c q.0) w.0 w.1

      rest : Memᴰ c (candidates_inside x ss runs levels ks first last) ⊎ Memᴰ c (node last ∷ []) → P c
      rest (inl i) = inner i
      rest (inr i) = subst P (sym (Memᴰ.eq_of_singleton i)) z

  -- each candidate between the ends survived
  pub inner_survives : (i : ℕ) → 0 < i → suc i < length cs → Memᴰ (candidate_at cs i) (candidates_inside x ss runs levels ks first last)
  unfolding candidates_of
  inner_survives zero s h = absurd (omega arith)
  inner_survives (suc i) s h =
      let b = candidates_inside x ss runs levels ks first last in
      let l : i < length b = omega (arith, length-append b (node last ∷ [])) in
      rw (get_or-append b (node last ∷ []) (node 0) i l) (at_member b i l)

  -- so it is a point at one of ks, or the own candidate of an inner silence
  pub candidate_source : (i : ℕ) → 0 < i → suc i < length cs → Source x ss runs levels ks (candidate_at cs i)
  candidate_source i s h =
      let c = candidate_at cs i in
      listed_source x ss runs levels ks c (survivor_of (all_listed x ss runs levels ks) (boundaries first (last - suc first)) c (inner_survives i s h)).0

  -- a survivor stands between the ends
  between_in : (c : Candidate) → Memᴰ c (candidates_inside x ss runs levels ks first last) → Memᴰ c cs
  unfolding candidates_of
  between_in c m = Memᴰ.tail (Memᴰ.append_left (node last ∷ []) m)

  -- the number of a candidate with left end k
  pub record FoundAt (k : ℕ) : Type 0 where
    pub number : ℕ
    pub counted : number < length cs
    pub at : (candidate_at cs number).left ≡ k

  -- each left end of a listed candidate strictly inside the span has one
  pub listed_found : (c : Candidate) → Source x ss runs levels ks c → first < c.left → c.left < last → FoundAt c.left
  listed_found c s f l =
      let r = survivor_found (all_listed x ss runs levels ks) (boundaries first (last - suc first)) c (source_listed x ss runs levels ks c s)
      (in_boundaries first (last - suc first) c.left f (omega arith)) in
      let n = member_at cs r.who (between_in r.who r.survives) in
      record { number = n.number; counted = n.counted; at = ap (λ (d : Candidate). d.left) n.is ∙ r.at }

  -- so has each boundary with a point
  pub point-found : (k : ℕ) → is_in ks k ≡ true → first < k → k < last → FoundAt k
  point-found k t f l =
      let e = (point-ends x ss runs levels ks k).0 in
      subst FoundAt e (listed_found (point_at x ss runs levels k) (point k t refl) (rw e f) (rw e l))

  -- ---- nothing is listed outside the span

  -- where each point lies strictly inside the span, all that is listed does: the Rust's `retain` removes nothing
  pub listed_inside : Planned x ss levels ks first last → ((k : ℕ) → is_in ks k ≡ true → (first < k) × (k < last))
      → (c : Candidate) → Memᴰ c (all_listed x ss runs levels ks) → (first < c.left) × (c.right < last)
  listed_inside p f c m = elim (listed_source x ss runs levels ks c m) [
    | own i a e ↦ let w = own_inside x ss runs levels ks first last p i a in rw e (w.0, w.2)
    | point k t e ↦ rw (e, (point-ends x ss runs levels ks k).0, (point-ends x ss runs levels ks k).1) (f k t)
  ]
