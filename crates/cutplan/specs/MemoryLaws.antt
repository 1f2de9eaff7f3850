-- Plan in the program's own memory: of at most 511 frames, with room for a piece at each, it never says 12 or 13.
use Rattle.std.specs.Prelude.{◌≡◌, refl, true, List, ℕ, ◌+◌, ◌≤◌, Float, length, Ok, Err}
use Rattle.std.proofs.Common.{arith, le-leb}
use Rattle.base_terms.specs.Work.{work_length, work_ok}
use Rattle.grid.specs.declared.validate.Recording.{Recording}
use Rattle.silence_list.specs.declared.config.SegmentConfig.{SegmentConfig}
use Rattle.plan_settings.specs.declared.config.PlanConfig.{PlanConfig}
use Rattle.plan_tests.specs.Fitting.{Fitting}
use Rattle.plan_tests.specs.RefusalLaws.{never_work}
use Rattle.plan_pieces.specs.Answer.{Answer, number_of}
use Rattle.plan_pieces.specs.AnswerLaws.{number-output}
use Rattle.plan_pieces.specs.Output.{Output}
use Rattle.plan_pieces.specs.declared.answer.Error.TheVariants.{Refused, ShortParent, ShortOutput}
use Rattle.plan_theorems.specs.Made.{HasRoom}
use Rattle.plan_theorems.proofs.Theorems.{plan_made, plan_ended}
use Rattle.job.specs.Limits.{most_frames}
use Rattle.cutplan.specs.Memory.{lent_work, lent_parents, end_within}

-- 16 entries for each frame, and 16 more
work_lent : (n : ℕ) → n ≤ most_frames → work_ok (n + 1) (length lent_work.u32s) (length lent_work.u64s) (length lent_work.f64s) ≡ true
unfolding work_ok
work_lent n h = rw (le-leb (work_length (n + 1)) 8192 (omega (arith, h)))

module _ (r : Recording) (segment : SegmentConfig) (settings : PlanConfig) (values : List Float) (flags : List ℕ) (levels : List Float) (out : Output) where
  abbrev answer : Answer
  answer = (end_within r segment settings values flags levels out).answer

  -- what is planned is written
  pub planned-room : (n : ℕ) → answer ≡ Ok n → HasRoom n out
  planned-room n e = (plan_made r segment settings values flags levels out lent_work lent_parents n e).written.fits

  module _ (few : length values ≤ most_frames) where
    -- the work lists are long enough
    pub never_13 : number_of answer ≡ 13 → ⊥
    never_13 = go answer refl
      where
        go : (a : Answer) → answer ≡ a → number_of a ≡ 13 → ⊥
        go (Ok n) e f = omega (arith, f)
        go (Err (Refused x)) e f =
            never_work r segment settings values flags levels (length lent_work.u32s) (length lent_work.u64s) (length lent_work.f64s) x (work_lent (length values) few)
            ((plan_ended r segment settings values flags levels out lent_work lent_parents).first_failed x e) f
        go (Err ShortParent) e f = omega (arith, f)
        go (Err ShortOutput) e f = omega (arith, f)

  -- the output is, where it has room for a piece at each frame
  pub never_12 : Fitting values levels → HasRoom (length values) out → number_of answer ≡ 12 → ⊥
  never_12 fits room e = (plan_ended r segment settings values flags levels out lent_work lent_parents).roomy fits room (number-output answer e)
