-- A boundary is kept exactly where it lies strictly inside the span and in no gap, the gap's edges included.
use Rattle.std.specs.Prelude.{◌≡◌, refl, ◌⊎◌, Bool, true, not, ◌&&◌, ℕ, zero, suc, ◌+◌, ◌-◌, ◌≤◌, ◌<◌, leb}
use Rattle.std.proofs.Common.{subst, inl, inr, arith, le-leb}
use Rattle.std.proofs.Math.Bool.{and-false}
use mathlib.Core.List.Memᴰ
use mathlib.Core.List.{List, [], ◌∷◌, Memᴰ}
use Rattle.std.proofs.lemmas.Bool.{lt-leb}
use Rattle.base_laws.specs.Tests.{both, holds, lt_or_le, tested}
use Rattle.candidate_span.specs.Gaps.{Cut}
use Rattle.candidate_span.specs.Kept.{in_none, boundaries, passing, kept_boundaries}

-- ---- the boundaries of a run

-- every boundary after a, up to the last of the run, is in it
pub in_boundaries : (a n k : ℕ) → a < k → k ≤ a + n → Memᴰ k (boundaries a n)
unfolding boundaries
in_boundaries a zero k h l = absurd (omega arith)
in_boundaries a (suc n) k h l = elim (lt_or_le (suc a) k) [
  | inl q ↦ Memᴰ.tail (in_boundaries (suc a) n k q (omega arith))
  | inr q ↦
      let e : k ≡ suc a = omega arith in
      Memᴰ.head e
]

-- and no other
pub of_boundaries : (a n k : ℕ) → Memᴰ k (boundaries a n) → (a < k) × (k ≤ a + n)
unfolding boundaries
of_boundaries a zero k m = absurd (Memᴰ.not-nil m)
of_boundaries a (suc n) k (Memᴰ.head e) = (omega arith, omega arith)
of_boundaries a (suc n) k (Memᴰ.tail m) = let i = of_boundaries (suc a) n k m in (omega arith, omega arith)

-- ---- those that pass a test

in_passing : (p : ℕ → Bool) (ks : List ℕ) (k : ℕ) → Memᴰ k ks → p k ≡ true → Memᴰ k (passing p ks)
unfolding passing
in_passing p [] k m t = absurd (Memᴰ.not-nil m)
in_passing p (j ∷ ks) k (Memᴰ.head e) t = rw (subst (λ (i : ℕ). p i ≡ true) e t) (Memᴰ.head e)
in_passing p (j ∷ ks) k (Memᴰ.tail m) t = elim (tested (p j)) [ inl f ↦ rw f (Memᴰ.tail (in_passing p ks k m t)) | inr f ↦ rw f (in_passing p ks k m t) ]

of_passing : (p : ℕ → Bool) (ks : List ℕ) (k : ℕ) → Memᴰ k (passing p ks) → Memᴰ k ks × (p k ≡ true)
unfolding passing
of_passing p [] k m = absurd (Memᴰ.not-nil m)
of_passing p (j ∷ ks) k m = elim (tested (p j)) [
  | inl t ↦ elim (Memᴰ.cases_cons (rw t at m)) [
    | inl e ↦ (Memᴰ.head e, rw e t)
    | inr i ↦ let r = of_passing p ks k i in (Memᴰ.tail r.0, r.1)
  ]
  | inr t ↦ let r = of_passing p ks k (rw t at m) in (Memᴰ.tail r.0, r.1)
]

-- ---- a boundary in no gap

-- k lies in no gap, its edges included
abbrev pub Outside : List Cut → ℕ → Type 0
Outside gs k = (g : Cut) → Memᴰ g gs → (k < g.left) ⊎ (g.right < k)

-- then the test that it is in none passes
pub outside_none : (gs : List Cut) (k : ℕ) → Outside gs k → in_none gs k ≡ true
unfolding in_none
outside_none [] k o = refl
outside_none (g ∷ gs) k o = let rest = outside_none gs k (λ j m. o j (Memᴰ.tail m)) in elim (o g (Memᴰ.head refl)) [
  | inl h ↦ rw (lt-leb g.left k h, rest)
  | inr h ↦ rw (lt-leb k g.right h, and-false (leb g.left k), rest)
]

-- and only then
pub none_outside : (gs : List Cut) (k : ℕ) → in_none gs k ≡ true → Outside gs k
unfolding in_none
none_outside [] k e g m = absurd (Memᴰ.not-nil m)
none_outside (h ∷ gs) k e g m =
    let parts = both (not (leb h.left k && leb k h.right)) (in_none gs k) e in
    elim (Memᴰ.cases_cons m) [
      | inl q ↦ rw q (elim (lt_or_le k h.left) [
        | inl a ↦ inl a
        | inr a ↦ elim (lt_or_le h.right k) [ inl b ↦ inr b | inr b ↦ absurd (holds (rw (le-leb h.left k a, le-leb k h.right b) at parts.0)) ]
      ])
      | inr i ↦ none_outside gs k parts.1 g i
    ]

-- ---- kept boundaries

-- a boundary strictly inside the span and in no gap is kept
pub kept_in_lem : (first : ℕ) (gs : List Cut) (last k : ℕ) → first < k → k < last → Outside gs k → Memᴰ k (kept_boundaries first gs last)
unfolding kept_boundaries
kept_in_lem first gs last k h l o =
    in_passing (in_none gs) (boundaries first (last - suc first)) k (in_boundaries first (last - suc first) k h (omega arith)) (outside_none gs k o)

-- and no other is
pub kept_of : (first : ℕ) (gs : List Cut) (last k : ℕ) → Memᴰ k (kept_boundaries first gs last) → (first < k) × (k < last) × Outside gs k
unfolding kept_boundaries
kept_of first gs last k m =
    let p = of_passing (in_none gs) (boundaries first (last - suc first)) k m in
    let i = of_boundaries first (last - suc first) k p.0 in
    (i.0, omega (arith, i.0, i.1), none_outside gs k p.1)
