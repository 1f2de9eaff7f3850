-- The refusal that a number says: none for a plan's, and for every other the number itself.
use Rattle.std.specs.Prelude.{◌≡◌, refl, ℕ, zero, suc, Option, None, Some, Ok, Err}
use Rattle.std.specs.Option.{unwrap_or}
use Rattle.std.proofs.Common.{arith}
use Rattle.grid.specs.ValidateLaws as validity
use Rattle.plan_tests.specs.Refusal as tests
use Rattle.plan_tests.specs.declared.refusal.Refusal as refusal
use Rattle.plan_tests.specs.declared.refusal.Refusal.TheVariants.{BadRecording, BadDurations, BadCount, BadRatio, BadWeights, BadThreshold, ShortWork}
use Rattle.plan_pieces.specs.Answer.{Answer, error_number, number_of}
use Rattle.plan_pieces.specs.declared.answer.Error.{Error}
use Rattle.plan_pieces.specs.declared.answer.Error.TheVariants.{Refused, ShortParent, ShortOutput}
use Rattle.cutplan.specs.Lines.{refusal_said}

-- 0 says none
pub said_none : (n : ℕ) → n ≡ 0 → None ≡ refusal_said n
unfolding refusal_said
said_none n e = rw e

-- another number says itself
pub said_some : (n : ℕ) → (n ≡ 0 → ⊥) → Some n ≡ refusal_said n
unfolding refusal_said
said_some zero other = absurd (other refl)
said_some (suc n) other = refl

-- the number again, by what is said
pub said_number : (n : ℕ) (said : Option ℕ) → said ≡ refusal_said n → unwrap_or said 0 ≡ n
unfolding refusal_said
said_number zero said e = rw e
said_number (suc n) said e = rw e

-- ---- which numbers are 0

-- that of no refusal before 14
refusal_some : (r : refusal.Refusal) → tests.number_of r ≡ 0 → ⊥
refusal_some (BadRecording x) e = validity.number_some x e
refusal_some BadDurations e = omega arith
refusal_some BadCount e = omega arith
refusal_some BadRatio e = omega arith
refusal_some BadWeights e = omega arith
refusal_some BadThreshold e = omega arith
refusal_some ShortWork e = omega arith

-- nor that of a later one
pub error_some : (error : Error) → error_number error ≡ 0 → ⊥
error_some (Refused r) e = refusal_some r e
error_some ShortParent e = omega arith
error_some ShortOutput e = omega arith

-- ---- of an answer

-- a plan says no refusal
pub planned_said : (a : Answer) (n : ℕ) → a ≡ Ok n → None ≡ refusal_said (number_of a)
planned_said a n e = said_none (number_of a) (rw e)

-- an error says its number
pub error_said : (a : Answer) (error : Error) → a ≡ Err error → Some (error_number error) ≡ refusal_said (number_of a)
error_said a error e = rw e (said_some (error_number error) (error_some error))
