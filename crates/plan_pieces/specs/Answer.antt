-- What the operation Plan answers, as document 01's numbers: a plan, a refusal before 14, or one of those that arise later.
use Rattle.std.specs.Prelude.{ℕ, Result, Ok, Err}
use Rattle.plan_tests.specs.Refusal as tests
use Rattle.plan_pieces.specs.declared.answer.Error.{Error}
use Rattle.plan_pieces.specs.declared.answer.Error.TheVariants.{Refused, ShortParent, ShortOutput}

-- how many pieces the plan has, or why there is none
abbrev pub Answer : Type 0
Answer = Result ℕ Error

-- document 01's number for each case without a plan
abbrev pub error_number : Error → ℕ
error_number (Refused r) = tests.number_of r
error_number ShortParent = 14
error_number ShortOutput = 12

-- document 01's number for each answer; 0 where the plan was made
abbrev pub number_of : Answer → ℕ
number_of (Ok pieces) = 0
number_of (Err e) = error_number e
