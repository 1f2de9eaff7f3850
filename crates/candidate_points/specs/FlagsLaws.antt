-- A flag tells whether its test passed.
use Rattle.std.specs.Prelude.{◌≡◌, refl, Bool, true, false, not, eqb}
use Rattle.std.proofs.Common.{sym, ◌∙◌}
use Rattle.base_laws.specs.Tests.{holds}
use Rattle.candidate_points.specs.Flags.{flag_of}

-- the flag of a test that passes is 1
pub flag_yes : flag_of true ≡ 1
unfolding flag_of
flag_yes = refl

-- and of one that fails 0
pub flag_no : flag_of false ≡ 0
unfolding flag_of
flag_no = refl

-- the test, read from its flag
pub flag_set : (b : Bool) → not (eqb (flag_of b) 0) ≡ b
unfolding flag_of
flag_set true = refl
flag_set false = refl

-- no test passes and fails
pub not_both : {b : Bool} → b ≡ true → b ≡ false → ⊥
not_both p q = holds (sym q ∙ p)
