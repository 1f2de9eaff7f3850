-- What is listed: the own candidate of an inner silence, or the point at one of the boundaries ks. Neither lies in a gap of the other, so two with different left ends are apart.
use Rattle.std.specs.Prelude.{◌≡◌, ◌⊎◌, Bool, cond, Float}
use Rattle.std.proofs.Math.Path.{refl}
use Rattle.std.proofs.Common.{sym, ap, subst, ◌∙◌, lt_irrefl, eq-or-lt_of_le, arith}
use Rattle.std.proofs.Math.Logic.{inl, inr}
use Rattle.std.proofs.Math.Bool.{true, false}
use mathlib.Core.List.Memᴰ
use mathlib.Core.List.{List, ◌∷◌, map, Memᴰ}
use Prim.Native.Nat.{ℕ, zero, suc, ◌+◌, ◌≤◌, ◌<◌}
use Rattle.base_laws.specs.Tests.{lt_or_le}
use Rattle.candidate_span.specs.Listed.{silence_count, start_at, end_at}
use Rattle.candidate_span.specs.Bounds.{is_inner}
use Rattle.candidate_span.specs.Span.{first_of, last_of}
use Rattle.candidate_span.specs.Gaps.{Cut, gaps_of}
use Rattle.candidate_span.specs.KeptIn.{Outside}
use Rattle.candidate_points.specs.Points.{is_in}
use Rattle.candidate_cuts.specs.CutLaws.{cut-within}
use Rattle.candidate_cuts.specs.CutsLaws.{CutReady, InnerAt, inner_cut, cut_inside, cuts_apart, cut-dropped}
use Rattle.candidates.specs.declared.candidate.Candidate.{Candidate}
use Rattle.candidates.specs.declared.context.Context.{Context}
use Rattle.candidates.specs.Candidates.{point_at, own_at, own_from, all_listed}
use Rattle.candidates.specs.Members.{is_in_lem, in_is}

-- document 01's dropped gaps of a plan
abbrev pub dropped_of : Context → List ℕ → List Cut
dropped_of x ss = gaps_of x.gap x.padding ss

-- what a plan has when candidates are sought: a span, prepared silences, and points at kept frame boundaries only
pub record Planned (x : Context) (ss : List ℕ) (levels : List Float) (ks : List ℕ) (first last : ℕ) : Type 0 where
  pub prepared : CutReady x.gap x.placement x.padding.frames levels ss
  pub starts : first ≡ first_of x.gap x.padding ss
  pub stops : last ≡ last_of x.gap x.padding ss
  pub clear : (k : ℕ) → is_in ks k ≡ true → first < k → k < last → Outside (dropped_of x ss) k

module _ (x : Context) (ss runs : List ℕ) (levels : List Float) (ks : List ℕ) where
  -- where a listed candidate comes from
  pub data Source (c : Candidate) : Type 0 where
    own : (i : ℕ) → InnerAt x.padding.frames ss i → c ≡ own_at x ss levels i → Source c
    point : (k : ℕ) → is_in ks k ≡ true → c ≡ point_at x ss runs levels k → Source c

  own_from_lem : (n i : ℕ) (c : Candidate) → i + n ≡ silence_count ss → Memᴰ c (own_from x ss levels n i) → Source c
  unfolding own_from
  own_from_lem zero i c h m = absurd (Memᴰ.not-nil m)
  own_from_lem (suc n) i c h m = go (is_inner x.padding.frames (start_at ss i) (end_at ss i)) refl m (own_from_lem n (suc i) c (omega arith))
    where
      go : (b : Bool) → is_inner x.padding.frames (start_at ss i) (end_at ss i) ≡ b → Memᴰ c (cond b (own_at x ss levels i ∷ own_from x ss levels n (suc i)) (own_from x ss levels n (suc i)))
          → (Memᴰ c (own_from x ss levels n (suc i)) → Source c) → Source c
      go true t (Memᴰ.head e) f = own i (record { listed = omega arith; inner = t }) e
      go true t (Memᴰ.tail q) f = f q
      go false t q f = f q

  from-own : (n i j : ℕ) → i ≤ j → j < i + n → is_inner x.padding.frames (start_at ss j) (end_at ss j) ≡ true → Memᴰ (own_at x ss levels j) (own_from x ss levels n i)
  unfolding own_from
  from-own zero i j h l t = absurd (omega arith)
  from-own (suc n) i j h l t =
      elim (lt_or_le i j) [
        | inl q ↦ later (is_inner x.padding.frames (start_at ss i) (end_at ss i)) (from-own n (suc i) j q (omega arith) t)
        | inr q ↦ here (omega arith)
      ]
    where
      later : (b : Bool) → Memᴰ (own_at x ss levels j) (own_from x ss levels n (suc i))
          → Memᴰ (own_at x ss levels j) (cond b (own_at x ss levels i ∷ own_from x ss levels n (suc i)) (own_from x ss levels n (suc i)))
      later true m = Memᴰ.tail m
      later false m = m

      here : i ≡ j → Memᴰ (own_at x ss levels j) (cond (is_inner x.padding.frames (start_at ss i) (end_at ss i)) (own_at x ss levels i ∷ own_from x ss levels n (suc i)) (own_from x ss levels n (suc i)))
      here e = rw (e, t) (Memᴰ.head refl)

  -- every listed candidate has a source
  pub listed_source : (c : Candidate) → Memᴰ c (all_listed x ss runs levels ks) → Source c
  unfolding all_listed
  listed_source c m = elim (Memᴰ.append_cases (own_from x ss levels (silence_count ss) 0) m) [
    | inl i ↦ own_from_lem (silence_count ss) 0 c (omega arith) i
    | inr i ↦ let p = Memᴰ.of_map (point_at x ss runs levels) ks i in point p.0 (in_is ks p.0 p.1) (sym p.2)
  ]

  -- and whatever has one is listed
  pub source_listed : (c : Candidate) → Source c → Memᴰ c (all_listed x ss runs levels ks)
  unfolding all_listed
  source_listed c (own i a e) = rw e (Memᴰ.append_left (map (point_at x ss runs levels) ks) (from-own (silence_count ss) 0 i (omega arith) (omega (arith, a.listed)) a.inner))
  source_listed c (point k t e) = rw e (Memᴰ.append_right (own_from x ss levels (silence_count ss) 0) (Memᴰ.map (point_at x ss runs levels) (is_in_lem ks k t)))

  -- ---- where it lies

  -- a point has one boundary for both ends
  pub point-ends : (k : ℕ) → ((point_at x ss runs levels k).left ≡ k) × ((point_at x ss runs levels k).right ≡ k)
  unfolding point_at
  point-ends k = (refl, refl)

  module _ (first last : ℕ) (p : Planned x ss levels ks first last) where
    -- an own candidate lies strictly inside the span
    pub own_inside : (i : ℕ) → InnerAt x.padding.frames ss i
        → (first < (own_at x ss levels i).left) × ((own_at x ss levels i).left ≤ (own_at x ss levels i).right) × ((own_at x ss levels i).right < last)
    unfolding own_at
    own_inside i a =
        let q = cut_inside x.gap x.placement x.padding levels ss p.prepared i a in
        let w = cut-within x.placement x.padding levels (start_at ss i) (end_at ss i) (inner_cut x.gap x.placement x.padding levels ss p.prepared i a) x.gap in
        (rw p.starts q.0, w.1, rw p.stops q.1)

    -- an own candidate ends before that of a later silence starts
    pub own_apart : (i j : ℕ) → i < j → InnerAt x.padding.frames ss i → InnerAt x.padding.frames ss j → (own_at x ss levels i).right < (own_at x ss levels j).left
    unfolding own_at
    own_apart i j h a b = cuts_apart x.gap x.placement x.padding levels ss p.prepared i j h a b

    -- with two ends it is a dropped gap
    pub own-dropped : (i : ℕ) → InnerAt x.padding.frames ss i → (own_at x ss levels i).left < (own_at x ss levels i).right
        → Memᴰ (record { left = (own_at x ss levels i).left; right = (own_at x ss levels i).right }) (dropped_of x ss)
    unfolding own_at
    own-dropped i a h = cut-dropped x.gap x.placement x.padding levels ss p.prepared i a h

    -- and no point lies in it, its edges included
    own_clear : (i k : ℕ) → InnerAt x.padding.frames ss i → (own_at x ss levels i).left < (own_at x ss levels i).right → is_in ks k ≡ true → first < k → k < last
        → (k < (own_at x ss levels i).left) ⊎ ((own_at x ss levels i).right < k)
    own_clear i k a h t f l = p.clear k t f l (record { left = (own_at x ss levels i).left; right = (own_at x ss levels i).right }) (own-dropped i a h)

    -- ---- two of them

    -- the later own candidate has the higher left end
    own_order : (i j : ℕ) → InnerAt x.padding.frames ss i → InnerAt x.padding.frames ss j → (own_at x ss levels i).left < (own_at x ss levels j).left → (own_at x ss levels i).right < (own_at x ss levels j).left
    own_order i j a b h = elim (lt_or_le i j) [
      | inl q ↦ own_apart i j q a b
      | inr q ↦
          elim (eq-or-lt_of_le q) [
            | inl e ↦ absurd (lt_irrefl (own_at x ss levels j).left (subst (λ (n : ℕ). (own_at x ss levels n).left < (own_at x ss levels j).left) (sym e) h))
            | inr l ↦ absurd (omega (arith, (own_inside j b).1, own_apart j i l b a))
          ]
    ]

    -- an own candidate ends before a point that lies after its left end
    own-before : (i k : ℕ) → InnerAt x.padding.frames ss i → is_in ks k ≡ true → first < k → k < last → (own_at x ss levels i).left < k → (own_at x ss levels i).right < k
    own-before i k a t f l h = elim (lt_or_le (own_at x ss levels i).left (own_at x ss levels i).right) [
      | inl g ↦ elim (own_clear i k a g t f l) [ inl q ↦ absurd (omega arith) | inr q ↦ q ]
      | inr g ↦ omega arith
    ]

    -- a candidate ends before the left end of any that starts after it
    pub sources_apart : (c d : Candidate) → Source c → Source d → c.left < d.left → first < d.left → d.left < last → c.right < d.left
    sources_apart c d (point k t e) s h f l = rw (e, (point-ends k).1) (subst (λ (n : ℕ). n < d.left) (ap (λ (a : Candidate). a.left) e ∙ (point-ends k).0) h)
    sources_apart c d (own i a e) (own j b q) h f l = rw (e, q) (own_order i j a b (rw (e, q) at h))
    sources_apart c d (own i a e) (point k t q) h f l =
        let r : d.left ≡ k = ap (λ (b : Candidate). b.left) q ∙ (point-ends k).0 in
        rw (e, r) (own-before i k a t (rw r at f) (rw r at l) (rw (e, r) at h))

    -- where a silence's candidate is a dropped gap, no other has its left end
    pub own_only : (i : ℕ) (c : Candidate) → InnerAt x.padding.frames ss i → (own_at x ss levels i).left < (own_at x ss levels i).right → Source c → c.left ≡ (own_at x ss levels i).left
        → c ≡ own_at x ss levels i
    own_only i c a h (own j b q) e = elim (lt_or_le i j) [
      | inl l ↦ absurd (omega (arith, own_apart i j l a b, ap (λ (d : Candidate). d.left) (sym q) ∙ e))
      | inr l ↦
          elim (eq-or-lt_of_le l) [
            | inl g ↦ q ∙ ap (own_at x ss levels) g
            | inr g ↦ absurd (omega (arith, (own_inside j b).1, own_apart j i g b a, ap (λ (d : Candidate). d.left) (sym q) ∙ e))
          ]
    ]
    own_only i c a h (point k t q) e =
        let r : k ≡ (own_at x ss levels i).left = sym (point-ends k).0 ∙ ap (λ (d : Candidate). d.left) (sym q) ∙ e in
        let w = own_inside i a in
        elim (own_clear i k a h t (omega (arith, w.0)) (omega (arith, w.1, w.2))) [ inl g ↦ absurd (omega arith) | inr g ↦ absurd (omega arith) ]
