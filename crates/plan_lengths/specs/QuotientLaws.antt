-- A quotient of two whole numbers that the format holds exactly is their fraction, rounded once: then the order of quotients is the order of fractions.
use Rattle.std.specs.Prelude.{◌≡◌, false, ℕ, ◌^◌, ◌≤◌, ◌<◌, pos}
use Rattle.std.proofs.Common.{◌∙◌, mul-one, arith}
use Rattle.std.specs.Float.{Format}
use Rattle.std.specs.Float.Ieee.{prec, round, div, of_int}
use Rattle.base_laws.specs.Nearest.{float_div_is}
use Rattle.base_laws.specs.Whole.{whole_exact}

-- the quotient of two whole numbers that the format holds is their fraction, rounded once
pub quotient_is : (f : Format) (a b : ℕ) → 0 < b → a ≤ 2 ^ prec f → b ≤ 2 ^ prec f → div f (of_int f (pos a)) (of_int f (pos b)) ≡ round f false a b
quotient_is f a b B h k =
    float_div_is f (of_int f (pos a)) (of_int f (pos b)) a 1 b 1 (omega arith) (omega arith) B (whole_exact f a h) (whole_exact f b k)
    ∙ rw (mul-one a, mul-one b)
