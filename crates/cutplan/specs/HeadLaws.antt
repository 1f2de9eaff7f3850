-- What was put at the front of a list is lent on as its first part.
use Rattle.std.specs.Prelude.{◌≡◌, List, ℕ, ◌≤◌, Float, length, take}
use Rattle.std.proofs.Common.{arith}
use Rattle.base_terms.specs.Lists.{onto}
use Rattle.base_code.specs.FrontLaws.{onto-take}
use Rattle.grid.specs.Validate.{level_count}
use Rattle.grid.specs.declared.validate.Domain.{Domain}
use Rattle.grid.specs.declared.validate.Domain.TheVariants.{Decibels, Scores}
use Rattle.job.specs.Job.{values_in, flags_in, levels_in}
use Rattle.job.specs.JobLaws.{values_length, flags-length, levels-length}
use Rattle.job.specs.declared.answer.Head.{Head}

front_part : {A : Type 0} (p xs ys : List A) (n : ℕ) → length p ≡ n → ys ≡ onto p xs → take n ys ≡ p
front_part p xs ys n e f = rw (f, ← e) (onto-take p xs)

-- no more levels than frames
pub levels_few : (d : Domain) (frames n : ℕ) → n ≡ level_count d frames → n ≤ frames
levels_few Decibels frames n e = omega (arith, e)
levels_few Scores frames n e = omega (arith, e)

-- so what is made of the parts of these lists is made of the job's
pub head_lists : {X : Type 0} (make : List Float → List ℕ → List Float → X) (job : List ℕ) (h : Head) (values values₀ levels levels₀ : List Float) (flags flags₀ : List ℕ) (n : ℕ)
    → values ≡ onto (values_in job h) values₀ → flags ≡ onto (flags_in job h) flags₀ → levels ≡ onto (levels_in job h) levels₀ → n ≡ level_count h.recording.domain h.frames
    → make (take h.frames values) (take h.frames flags) (take n levels) ≡ make (values_in job h) (flags_in job h) (levels_in job h)
head_lists make job h values values₀ levels levels₀ flags flags₀ n v f l e = rw (
  e,
  front_part (values_in job h) values₀ values h.frames (values_length job h) v,
  front_part (flags_in job h) flags₀ flags h.frames (flags-length job h) f,
  front_part (levels_in job h) levels₀ levels (level_count h.recording.domain h.frames) (levels-length job h) l,
)
