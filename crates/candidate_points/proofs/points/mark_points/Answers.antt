-- `points::mark_points` marks the boundaries strictly inside the span, and clears all others.
use mathlib.Core.Path.{refl}
use Prim.Native.Nat.{◌+◌}
use Rattle.candidate_points.specs.PointsWalk.{marked_all}
use Rattle.candidate_points.proofs.points.mark_points.Goals as goal

pub returns : goal.returns
returns c =
    marked_all c.args.levels.now c.args.block c.args.first c.args.last c.args.marks.now _ _ _ (c.args.first + 1) _ c.requires c.mark_blocks.ensures refl refl c.fill_range.ensures
    c.fill_range-2.ensures
