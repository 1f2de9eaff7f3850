-- Which silences the walk looks at: all that have sound on both sides.
use Rattle.std.specs.Prelude.{◌≡◌, refl, ◌⊎◌, cond, List, ℕ, suc, ◌+◌, ◌-◌, ◌*◌, ◌≤◌, ◌<◌, Float, length, get_or}
use Rattle.std.proofs.Common.{sym, ap, ◌∙◌, inl, inr, arith, length-take-le, get_or-take}
use Rattle.base_laws.specs.Tests.{lt_or_le}
use Rattle.candidate_span.specs.Listed.{silence_count, start_at, end_at}
use Rattle.candidate_span.specs.ListedLaws.{listed-own, listed_apart, listed-within}
use Rattle.candidate_span.specs.SpanLaws.{by_end}
use Rattle.candidate_span.specs.BoundsLaws.{inner_parts, inner_is}
use Rattle.candidate_cuts.specs.CutsLaws.{InnerAt}
use Rattle.candidates.specs.declared.context.Context.{Context}
use Rattle.candidate_walk.specs.Held.{silences_held}
use Rattle.candidate_walk.specs.Collect.{inner_from, inner_to}
use Rattle.candidate_walk.specs.CollectLaws.{Holding}
use Rattle.candidate_walk.specs.CollectStep.{InnerRange}

-- ---- the silences with sound on both sides

-- only the first can lack sound before it
from_cases : (silences : ℕ) (work : List ℕ) → ((inner_from silences work ≡ 0) × (0 < silences → start_at work 0 ≡ 0 → ⊥)) ⊎ ((inner_from silences work ≡ 1) × (0 < silences) × (start_at work 0 ≡ 0))
unfolding inner_from
from_cases silences work =
    by_end silences (start_at work 0) 0
    (λ t. ((◌≡◌ {A = ℕ} (cond t 1 0) 0) × (0 < silences → start_at work 0 ≡ 0 → ⊥)) ⊎ ((◌≡◌ {A = ℕ} (cond t 1 0) 1) × (0 < silences) × (start_at work 0 ≡ 0)))
    (λ h e. inr (refl, h, e)) (λ n. inl (refl, n))

-- only the last can lack sound after it
to_cases : (n silences : ℕ) (work : List ℕ) → ((inner_to n silences work ≡ silences) × (0 < silences → end_at work (silences - 1) ≡ n → ⊥)) ⊎ ((inner_to n silences work ≡ silences - 1) × (0 < silences) × (end_at work (silences - 1) ≡ n))
unfolding inner_to
to_cases n silences work =
    by_end silences (end_at work (silences - 1)) n
    (λ t. ((cond t (silences - 1) silences ≡ silences) × (0 < silences → end_at work (silences - 1) ≡ n → ⊥)) ⊎ ((cond t (silences - 1) silences ≡ silences - 1) × (0 < silences) × (end_at work (silences - 1) ≡ n)))
    (λ h e. inr (refl, h, e)) (λ s. inl (refl, s))

module _ (x : Context) (silences : ℕ) (work : List ℕ) (workf : List Float) (h : Holding x silences work workf) where
  abbrev n : ℕ
  n = x.padding.frames

  abbrev ss : List ℕ
  ss = silences_held silences work

  size : length ss ≡ 2 * silences
  size = length-take-le (2 * silences) work (omega (arith, h.apart, h.room))

  -- as many silences are listed as are held
  pub held_count : silence_count ss ≡ silences
  held_count = omega (arith, size)

  read : (i : ℕ) → i < 2 * silences → get_or ss i 0 ≡ get_or work i 0
  read i l = get_or-take (2 * silences) work i 0 l

  no_start : (j : ℕ) → inner_from silences work ≤ j → j < silences → start_at ss j ≡ 0 → ⊥
  no_start j a b e = elim (lt_or_le 0 j) [
    | inl l ↦ absurd (omega (arith, e, listed_apart h.listed 0 j l (omega (arith, held_count))))
    | inr l ↦
        let z : j ≡ 0 = omega arith in
        elim (from_cases silences work) [
          | inl p ↦ p.1 (omega arith) (sym (read 0 (omega arith)) ∙ ap (start_at ss) (sym z) ∙ e)
          | inr p ↦ absurd (omega (arith, p.0, a, z))
        ]
  ]

  no_end : (j : ℕ) → j < inner_to n silences work → j < silences → end_at ss j ≡ n → ⊥
  no_end j a b e = elim (lt_or_le (suc j) silences) [
    | inl l ↦ absurd (omega (arith, e, listed_apart h.listed j (suc j) (omega arith) (omega (arith, held_count)), listed-own h.listed (suc j) (omega (arith, held_count)), listed-within h.listed (suc j) (omega (arith, held_count))))
    | inr l ↦
        let z : j ≡ silences - 1 = omega arith in
        elim (to_cases n silences work) [
          | inl p ↦ p.1 (omega arith) (sym (read (2 * (silences - 1) + 1) (omega (arith, b))) ∙ ap (end_at ss) (sym z) ∙ e)
          | inr p ↦ absurd (omega (arith, p.0, a, z))
        ]
  ]

  to_most : inner_to n silences work ≤ silences
  to_most = elim (to_cases n silences work) [ inl p ↦ omega (arith, p.0) | inr p ↦ omega (arith, p.0) ]

  only : (j : ℕ) → InnerAt n ss j → (inner_from silences work ≤ j) × (j < inner_to n silences work)
  only j a = (from-here, to-here)
    where
      parts : (start_at ss j ≡ 0 → ⊥) × (end_at ss j ≡ n → ⊥)
      parts = inner_parts n (start_at ss j) (end_at ss j) a.inner

      below : j < silences
      below = omega (arith, a.listed, held_count)

      first_is : j ≡ 0 → start_at work 0 ≡ 0 → start_at ss j ≡ 0
      first_is z e = ap (start_at ss) z ∙ read 0 (omega (arith, below)) ∙ e

      last_is : j ≡ silences - 1 → end_at work (silences - 1) ≡ n → end_at ss j ≡ n
      last_is z e = ap (end_at ss) z ∙ read (2 * (silences - 1) + 1) (omega (arith, below)) ∙ e

      from-here : inner_from silences work ≤ j
      from-here = elim (from_cases silences work) [
        | inl p ↦ omega (arith, p.0)
        | inr p ↦ elim (lt_or_le 0 j) [ inl l ↦ omega (arith, p.0, l) | inr l ↦ absurd (parts.0 (first_is (omega (arith, l)) p.2)) ]
      ]

      to-here : j < inner_to n silences work
      to-here = elim (to_cases n silences work) [
        | inl p ↦ omega (arith, p.0, below)
        | inr p ↦ elim (lt_or_le (suc j) silences) [ inl l ↦ omega (arith, p.0, l) | inr l ↦ absurd (parts.1 (last_is (omega (arith, l, below)) p.2)) ]
      ]

  -- the range that the walk looks at
  pub held_ranged : InnerRange x ss (inner_from silences work) (inner_to n silences work)
  held_ranged = record {
    stops = omega (arith, held_count, to_most);
    inner = λ (j : ℕ) (a : inner_from silences work ≤ j) (b : j < inner_to n silences work).
        record { listed = omega (arith, held_count, to_most); inner = inner_is n (start_at ss j) (end_at ss j) (no_start j a (omega (arith, to_most))) (no_end j b (omega (arith, to_most))) };
    only = only;
  }
