-- Each dropped gap is what is left of an inner silence, and each inner silence of which something is left gives one.
use Rattle.std.specs.Prelude.{◌≡◌, refl, true}
use Rattle.std.proofs.Math.Logic.{inl, inr}
use mathlib.Core.List.Memᴰ
use mathlib.Core.List.{List, [], ◌∷◌, Memᴰ}
use Prim.Native.Nat.{ℕ, zero, suc, ◌<◌}
use Rattle.std.proofs.Common.{arith}
use Rattle.base_laws.specs.Tests.{tested}
use Rattle.candidate_span.specs.declared.padding.Padding.{Padding}
use Rattle.candidate_span.specs.Listed.{silence_count, start_at, end_at}
use Rattle.silence_runs.specs.SilencesLaws.{start_after, end_after_lem}
use Rattle.candidate_span.specs.Gaps.{Cut, is_gap, silence_gap, inner_gaps}

module _ (p : Padding) where
  -- silence i has a gap, and g is it
  pub record GapAt (ss : List ℕ) (g : Cut) : Type 0 where
    pub number : ℕ
    pub listed : number < silence_count ss
    pub left : is_gap p (start_at ss number) (end_at ss number) ≡ true
    pub is : g ≡ silence_gap p (start_at ss number) (end_at ss number)

  -- the same silence behind one more
  behind : (s e : ℕ) (ss : List ℕ) (g : Cut) → GapAt ss g → GapAt (s ∷ (e ∷ ss)) g
  behind s e ss g a = record {
    number = suc a.number;
    listed = omega (arith, a.listed);
    left = rw (start_after s e ss a.number, end_after_lem s e ss a.number) a.left;
    is = rw (start_after s e ss a.number, end_after_lem s e ss a.number) a.is;
  }

  -- each gap is that of some silence
  pub gap_from : (ss : List ℕ) (g : Cut) → Memᴰ g (inner_gaps p ss) → GapAt ss g
  unfolding inner_gaps
  gap_from [] g m = absurd (Memᴰ.not-nil m)
  gap_from (s ∷ []) g m = absurd (Memᴰ.not-nil m)
  gap_from (s ∷ (e ∷ ss)) g m = elim (tested (is_gap p s e)) [
    | inl t ↦ elim (Memᴰ.cases_cons (rw t at m)) [
      | inl q ↦ record { number = 0; listed = omega arith; left = t; is = q }
      | inr i ↦ behind s e ss g (gap_from ss g i)
    ]
    | inr t ↦ behind s e ss g (gap_from ss g (rw t at m))
  ]

  -- and each silence that has one gives its gap
  pub gap_in : (ss : List ℕ) (i : ℕ) → i < silence_count ss → is_gap p (start_at ss i) (end_at ss i) ≡ true
      → Memᴰ (silence_gap p (start_at ss i) (end_at ss i)) (inner_gaps p ss)
  unfolding inner_gaps
  gap_in [] i h t = absurd (omega arith)
  gap_in (s ∷ []) i h t = absurd (omega arith)
  gap_in (s ∷ (e ∷ ss)) zero h t = rw t (Memᴰ.head refl)
  gap_in (s ∷ (e ∷ ss)) (suc i) h t =
      rw (start_after s e ss i, end_after_lem s e ss i)
      (elim (tested (is_gap p s e)) [
        | inl f ↦ rw f (Memᴰ.tail (gap_in ss i (omega arith) (rw (start_after s e ss i, end_after_lem s e ss i) at t)))
        | inr f ↦ rw f (gap_in ss i (omega arith) (rw (start_after s e ss i, end_after_lem s e ss i) at t))
      ])
