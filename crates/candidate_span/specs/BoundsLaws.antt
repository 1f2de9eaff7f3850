-- The padded bounds of a silence are inside it, and inside the recording.
use Rattle.std.specs.Prelude.{◌≡◌, true, not, ℕ, ◌≤◌, eqb}
use Rattle.std.proofs.Common.{inl, inr, arith, eqb-true, ne_eqb}
use Rattle.std.proofs.lemmas.Bool.{eqb-false, not-true}
use Rattle.base_laws.specs.Tests.{both, tested}
use Rattle.candidate_span.specs.declared.padding.Padding.{Padding}
use Rattle.candidate_span.specs.Bounds.{low_of, high_of, is_inner}

-- ---- an inner silence

-- it neither starts nor ends with the recording
pub inner_parts : (n start end : ℕ) → is_inner n start end ≡ true → (start ≡ 0 → ⊥) × (end ≡ n → ⊥)
unfolding is_inner
inner_parts n start end h =
    let p = both (not (eqb start 0)) (not (eqb end n)) h in
    (eqb-false start 0 (not-true (eqb start 0) p.0), eqb-false end n (not-true (eqb end n) p.1))

-- a silence that does neither is one
pub inner_is : (n start end : ℕ) → (start ≡ 0 → ⊥) → (end ≡ n → ⊥) → is_inner n start end ≡ true
unfolding is_inner
inner_is n start end h k = rw (ne_eqb start 0 h, ne_eqb end n k)

-- ---- of any silence

-- the lower bound is not before the silence's start, and within the frame count
pub low-within : (p : Padding) (start : ℕ) → start ≤ p.frames → (start ≤ low_of p start) × (low_of p start ≤ p.frames)
unfolding low_of
low-within p start h = elim (tested (eqb start 0)) [ inl e ↦ rw e (omega (arith, eqb-true start 0 e), omega arith) | inr e ↦ rw e (omega arith, omega arith) ]

-- the upper bound is not after the silence's end
pub high_within : (p : Padding) (end : ℕ) → high_of p end ≤ end
unfolding high_of
high_within p end = elim (tested (eqb end p.frames)) [ inl e ↦ rw e (omega (arith, eqb-true end p.frames e)) | inr e ↦ rw e (omega arith) ]
