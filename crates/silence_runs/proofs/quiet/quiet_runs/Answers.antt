-- `quiet::quiet_runs` walks once over the flags: a run is measured at the first frame that is not below off, or at the end.
use Rattle.std.proofs.Common.{rules}
use mathlib.Core.Path.{refl}
use lib.ListN.{length}
use Rattle.silence_runs.specs.Quiet.{own, quiet_runs}
use Rattle.silence_runs.specs.RunsWalk.{rewriting_start, rewriting_kind, rewriting_other, rewriting_done}
use Rattle.silence_runs.proofs.quiet.quiet_runs.Goals as goal
use Rattle.silence_runs.proofs.quiet.quiet_runs.Goals.{else-below-i-ne1, then-below-i-ne1}

pub loop-i-init : goal.loop-i-init
loop-i-init c = rewriting_start _ _ _

pub loop-i-preserved : goal.loop-i-preserved
loop-i-preserved c =
    elim c.if-below-i-ne1.branch [ then-below-i-ne1 w ↦ rw (w.below-is, w.start-is) (rewriting_other 1 own _ _ c.loop-i.below _ c.loop-i.start c.loop-i.i (search rules) w.if-below-i-ne1.true w.measure_run.ensures c.loop-i.invariant) | else-below-i-ne1 w ↦ rw (w.below-is, w.start-is) (rewriting_kind 1 own _ _ c.loop-i.below c.loop-i.start c.loop-i.i (search rules) w.if-below-i-ne1.false c.loop-i.invariant) ]

pub returns : goal.returns
unfolding quiet_runs
returns c =
    rewriting_done 1 own _ _ c.loop-i.below _ c.loop-i.start c.loop-i.i (length c.loop-i.below) (search rules) refl c.measure_run-2.ensures c.loop-i.invariant
