-- Each list that is lent has a place for each frame, and what was read into it stands there.
use Rattle.std.proofs.Common.{arith}
use mathlib.Core.Path.{sym, ap, ◌∙◌}
use lib.Seq.{length-take-le}
use Rattle.cutplan.specs.Lines.{lines_of_plan, refused_of_plan, refusal_said}
use Rattle.cutplan.specs.HeadLaws.{levels_few, head_lists}
use Rattle.cutplan.proofs.plan.plan_read.Goals as goal

pub slice_bounds-plan_lists-end : goal.slice_bounds-plan_lists-end
slice_bounds-plan_lists-end c = sym (length-take-le _ _ (omega (arith, c.requires.within.few_frames, c.values-2-1.given)))

pub slice_bounds-plan_lists-end-2 : goal.slice_bounds-plan_lists-end-2
slice_bounds-plan_lists-end-2 c = sym (length-take-le _ _ (omega (arith, c.requires.within.few_frames, c.flags-2-1.given)))

pub slice_bounds-levels-end : goal.slice_bounds-levels-end
slice_bounds-levels-end c =
    let few = levels_few c.args.head.recording.domain c.args.head.frames _ c.level_count-levelled.ensures in
    omega (arith, c.requires.within.few_frames, c.levels-2-1.given, few)

pub slice_bounds-plan_lists-end-3 : goal.slice_bounds-plan_lists-end-3
slice_bounds-plan_lists-end-3 c =
    let few = levels_few c.args.head.recording.domain c.args.head.frames _ c.level_count-levelled.ensures in
    sym (length-take-le _ _ (omega (arith, c.requires.within.few_frames, c.levels-2-1.given, few)))

pub returns : goal.returns
returns c = let values = c.put_values.ensures in
    let flags = c.put_flags.ensures in
    let levels = c.put_levels.ensures in
    let count = c.level_count-levelled.ensures in
    let lines = head_lists (lines_of_plan c.args.head.recording c.args.head.segment c.args.head.settings) c.args.job.now c.args.head _ _ _ _ _ _ _ values flags levels count in
    let number = head_lists (refused_of_plan c.args.head.recording c.args.head.segment c.args.head.settings) c.args.job.now c.args.head _ _ _ _ _ _ _ values flags levels count in
    rw (← lines) (record { size_value = c.plan_lists.ensures.size_value; refused_value = c.plan_lists.ensures.refused_value ∙ ap refusal_said number; out_after = c.plan_lists.ensures.out_after })
