-- A cut's record has all that its numbers say.
use Rattle.std.specs.Prelude.{◌≡◌, [], ◌∷◌, ℕ, ◌≤◌}
use Rattle.std.proofs.Common.{ap, arith}
use Rattle.plan_records.specs.Cuts.{reason_of, cut_of, numbers_of_cut}

-- each reason that there is is kept
pub reason_kept : (reason : ℕ) → reason ≤ 2 → reason_of reason ≡ reason
reason_kept reason h = omega (arith, h)

-- the record's numbers are those that it was made of
pub cut_back : (end start reason : ℕ) → reason ≤ 2 → numbers_of_cut (cut_of end start reason) ≡ end ∷ (start ∷ (reason ∷ []))
cut_back end start reason h = ap (λ (r : ℕ). end ∷ (start ∷ (r ∷ []))) (reason_kept reason h)
