-- Document 01's dropped gaps among a plan's candidates: they are those with two ends, and nothing else lies in them.
use Rattle.std.specs.Prelude.{◌≡◌, refl, ◌⊎◌, ℕ, ◌<◌, Float, length}
use Rattle.std.proofs.Math.Path.{sym, ap}
use Rattle.std.proofs.Common.{subst, ◌∙◌, inl, inr, lt_irrefl, eq-or-lt_of_le, arith}
use mathlib.Core.List.{List, Memᴰ}
use Rattle.base_laws.specs.Tests.{lt_or_le}
use Rattle.candidate_span.specs.Gaps.{Cut}
use Rattle.candidate_span.specs.GapsLaws.{gaps_inside}
use Rattle.candidate_cuts.specs.CutsLaws.{InnerAt, dropped-cut}
use Rattle.candidates.specs.declared.candidate.Candidate.{Candidate}
use Rattle.candidates.specs.declared.context.Context.{Context}
use Rattle.candidates.specs.Candidates.{own_at, candidates_of}
use Rattle.candidates.specs.Members.{candidate_at, at_member}
use Rattle.candidates.specs.Sources.{dropped_of, Planned, Source, own, point, point-ends, own_inside, own-dropped, own_only}
use Rattle.candidates.specs.Order.{candidates_apart}
use Rattle.candidates.specs.Found.{candidate_every, listed_found}

-- both ends of a candidate
abbrev pub candidate_cut : Candidate → Cut
candidate_cut c = record { left = c.left; right = c.right }

module _ (x : Context) (ss runs : List ℕ) (levels : List Float) (ks : List ℕ) (first last : ℕ) where
  -- the candidates
  abbrev cs : List Candidate
  cs = candidates_of x ss runs levels ks first last

  module _ (p : Planned x ss levels ks first last) where
    -- a candidate whose left end is below its right end is a dropped gap
    pub gap_dropped : (i : ℕ) → i < length cs → (candidate_at cs i).left < (candidate_at cs i).right → Memᴰ (candidate_cut (candidate_at cs i)) (dropped_of x ss)
    gap_dropped i h =
        candidate_every x ss runs levels ks first last (λ (c : Candidate). c.left < c.right → Memᴰ (candidate_cut c) (dropped_of x ss)) (λ (l : first < first). absurd (omega arith)) (λ (l : last < last). absurd (omega arith))
        (λ (c : Candidate) (s : Source x ss runs levels ks c) (f : first < c.left) (l : c.left < last). go c s)
        (candidate_at cs i) (at_member cs i h)
      where
        go : (c : Candidate) → Source x ss runs levels ks c → c.left < c.right → Memᴰ (candidate_cut c) (dropped_of x ss)
        go c (own j a e) l = rw e (own-dropped x ss runs levels ks first last p j a (rw e at l))
        go c (point k t e) l = absurd (lt_irrefl k (rw (e, (point-ends x ss runs levels ks k).0, (point-ends x ss runs levels ks k).1) at l))

    -- the number of the candidate with these ends
    pub record GapFound (g : Cut) : Type 0 where
      pub number : ℕ
      pub counted : number < length cs
      pub is : candidate_cut (candidate_at cs number) ≡ g

    -- whatever has its left end where a silence's candidate is a dropped gap is that candidate
    own_alone : (j : ℕ) → InnerAt x.padding.frames ss j → (own_at x ss levels j).left < (own_at x ss levels j).right
        → (c : Candidate) → Memᴰ c cs → c.left ≡ (own_at x ss levels j).left → c ≡ own_at x ss levels j
    own_alone j a h =
        let w = own_inside x ss runs levels ks first last p j a in
        candidate_every x ss runs levels ks first last (λ (c : Candidate). c.left ≡ (own_at x ss levels j).left → c ≡ own_at x ss levels j)
        (λ (e : first ≡ (own_at x ss levels j).left). absurd (omega (arith, w.0))) (λ (e : last ≡ (own_at x ss levels j).left). absurd (omega (arith, w.1, w.2)))
        (λ (c : Candidate) (s : Source x ss runs levels ks c) (f : first < c.left) (l : c.left < last). own_only x ss runs levels ks first last p j c a h s)

    -- each dropped gap is a candidate
    pub dropped-found : (g : Cut) → Memᴰ g (dropped_of x ss) → GapFound g
    dropped-found g m =
        let d = dropped-cut x.gap x.placement x.padding levels ss p.prepared g m in
        let e : g ≡ candidate_cut (own_at x ss levels d.number) = unfold own_at in d.is in
        let i = gaps_inside x.gap x.padding ss p.prepared.spanned g m in
        let w = own_inside x ss runs levels ks first last p d.number d.at in
        let r = listed_found x ss runs levels ks first last (own_at x ss levels d.number) (own d.number d.at refl) w.0 (omega (arith, w.1, w.2)) in
        let c = candidate_at cs r.number in
        let o : c ≡ own_at x ss levels d.number = own_alone d.number d.at (rw e at i.1) c (at_member cs r.number r.counted) r.at in
        record { number = r.number; counted = r.counted; is = ap candidate_cut o ∙ sym e }

    -- document 01: "In a plan no other candidate, found or added later, lies in a dropped gap, edges included"
    pub gap_alone : (g : Cut) → Memᴰ g (dropped_of x ss) → (i : ℕ) → i < length cs → (candidate_cut (candidate_at cs i) ≡ g)
        ⊎ (((candidate_at cs i).right < g.left) ⊎ (g.right < (candidate_at cs i).left))
    gap_alone g m i h =
        let r = dropped-found g m in
        let b : Candidate = candidate_at cs i in
        elim (lt_or_le i r.number) [
          | inl l ↦ inr (inl (subst (λ (d : Cut). b.right < d.left) r.is (candidates_apart x ss runs levels ks first last p i r.number l r.counted)))
          | inr l ↦
              elim (eq-or-lt_of_le l) [
                | inl e ↦ inl (ap (λ (j : ℕ). candidate_cut (candidate_at cs j)) (sym e) ∙ r.is)
                | inr q ↦ inr (inr (subst (λ (d : Cut). d.right < b.left) r.is (candidates_apart x ss runs levels ks first last p r.number i q h)))
              ]
        ]
