-- Every number but that of a plan is above 0, so it tells whether a plan was made; 14 and 12 are those of one case each.
use Rattle.std.specs.Prelude.{◌≡◌, refl, ℕ, ◌≤◌, Ok, Err}
use Rattle.std.proofs.Common.{arith}
use Rattle.plan_tests.specs.Refusal as tests
use Rattle.plan_tests.specs.RefusalLaws.{number_most, never_output}
use Rattle.plan_pieces.specs.Answer.{number_of}
use Rattle.plan_pieces.specs.Answer.{Answer}
use Rattle.plan_pieces.specs.declared.answer.Error.TheVariants.{Refused, ShortParent, ShortOutput}

-- a plan was made, of so many pieces
pub record IsPlanned (a : Answer) : Type 0 where
  pub pieces : ℕ
  pub is : a ≡ Ok pieces

-- a refusal before 14 has a number above 0, as that of the first test which fails has (`fails_some` of plan_tests)
abbrev pub Numbered : Answer → Type 0
Numbered (Ok pieces) = Unit {0}
Numbered (Err (Refused r)) = tests.number_of r ≡ 0 → ⊥
Numbered (Err ShortParent) = Unit {0}
Numbered (Err ShortOutput) = Unit {0}

-- the number is 0 only where a plan was made
pub number_zero : (a : Answer) → Numbered a → number_of a ≡ 0 → IsPlanned a
number_zero (Ok pieces) n e = record { pieces = pieces; is = refl }
number_zero (Err (Refused r)) n e = absurd (n e)
number_zero (Err ShortParent) n e = absurd (omega (arith, e))
number_zero (Err ShortOutput) n e = absurd (omega (arith, e))

-- 14 is that of a parent list which is too short alone
pub number-parent : (a : Answer) → number_of a ≡ 14 → a ≡ Err ShortParent
number-parent (Ok pieces) e = absurd (omega (arith, e))
number-parent (Err (Refused r)) e = absurd (omega (arith, number_most r, e))
number-parent (Err ShortParent) e = refl
number-parent (Err ShortOutput) e = absurd (omega (arith, e))

-- and 12 that of an output which is too short
pub number-output : (a : Answer) → number_of a ≡ 12 → a ≡ Err ShortOutput
number-output (Ok pieces) e = absurd (omega (arith, e))
number-output (Err (Refused r)) e = absurd (never_output r e)
number-output (Err ShortParent) e = absurd (omega (arith, e))
number-output (Err ShortOutput) e = refl

-- the highest is 14
pub answer_most : (a : Answer) → number_of a ≤ 14
answer_most (Ok pieces) = omega arith
answer_most (Err (Refused r)) = omega (arith, number_most r)
answer_most (Err ShortParent) = omega arith
answer_most (Err ShortOutput) = omega arith
