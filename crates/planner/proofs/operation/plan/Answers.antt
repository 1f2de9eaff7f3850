-- `operation::plan`: a refusal before 14 touches nothing; after that, whatever was answered, every work list is cleared whole.
use Rattle.std.proofs.Common.{rules}
use Rattle.base_terms.specs.Lists.{filled}
use Rattle.base_terms.specs.Work.{work_of}
use Rattle.base_code.specs.WorkLaws.{filled_same, cleared_same}
use Rattle.plan_pieces.specs.Output.{output_of}
use Rattle.plan_tests.specs.PlanReady.{fine_ready}
use Rattle.planner.specs.Operation.{plan_of}
use Rattle.planner.specs.OperationLaws.{plan_planned}
use mathlib.Core.Path.{sym, ◌∙◌}
use lib.ListN.{length}
use Rattle.planner.proofs.operation.plan.Goals as goal

pub returns-in_err-first_refusal : goal.returns-in_err-first_refusal
unfolding plan_of
returns-in_err-first_refusal c = record { answer = search rules; fitting = (record { values_fit = c.args.readings.now.values_fit; levels_fit = c.args.readings.now.levels_fit }) }

pub plan_recording-answer-requires : goal.plan_recording-answer-requires
plan_recording-answer-requires c =
    fine_ready c.args.r c.args.segment c.args.settings c.args.readings.now.values.now c.args.readings.now.flags.now c.args.readings.now.levels.now (length c.args.work_u32.now) (length c.args.work_u64.now) (length c.args.work_f64.now) (sym c.first_refusal.ensures ∙ c.in_ok-first_refusal.was)

pub returns : goal.returns
unfolding filled
returns c = record {
  answer = plan_planned c.args.r c.args.segment c.args.settings c.args.readings.now.values.now c.args.readings.now.flags.now c.args.readings.now.levels.now (output_of c.args.pieces.now c.args.cuts.now) (work_of c.args.work_u32.now c.args.work_u64.now c.args.work_f64.now) c.args.parent.now
      (sym c.in_ok-first_refusal.was ∙ c.first_refusal.ensures)
      c.plan_recording-answer.result _ _ _ c.plan_recording-answer.ensures
      (c.clear_work.ensures ∙ cleared_same _ _ c.work_u32-1.given c.work_u64-1.given c.work_f64-1.given)
      (c.fill.ensures.after (λ y e. e) ∙ filled_same 0 _ _ c.parent-1.given);
  fitting = (record { values_fit = c.args.readings.now.values_fit; levels_fit = c.args.readings.now.levels_fit });
}
