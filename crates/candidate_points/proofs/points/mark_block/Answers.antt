-- `points::mark_block` reads the flag of its boundary before it writes: a blocked one is passed, an open one starts a block.
use Rattle.std.proofs.Common.{rules}
use Rattle.std.proofs.Common.{arith}
use Prim.Native.Nat.{◌<◌}
use lib.ListN.{length}
use Rattle.candidate_points.specs.PointsWalk.{step_shut, step_open, step_some, step_inside}
use Rattle.candidate_points.proofs.points.mark_block.Goals as goal

pub returns-then-marks-k-ne0 : goal.returns-then-marks-k-ne0
returns-then-marks-k-ne0 c = let both = step_shut c.args.block c.args.last c.args.k c.args.levels.now c.args.marks.now c.if-marks-k-ne0.true in record { value = both.0; marks_after = both.1 }

pub quietest-at-requires : goal.quietest-at-requires
quietest-at-requires c =
    let p = step_some c.args.block c.args.last c.args.k c.args.levels.now c.args.marks.now c.requires c.if-marks-k-ne0.false c.block_end-end.result c.block_end-end.ensures in
    (p.0, omega (arith, p.1, c.requires.heard))

pub offset_bounds-marks-at : goal.offset_bounds-marks-at
offset_bounds-marks-at c =
    let p = step_inside c.args.block c.args.last c.args.k c.args.levels.now c.args.marks.now c.requires c.if-marks-k-ne0.false c.block_end-end.result c.block_end-end.ensures c.quietest-at.result c.quietest-at.ensures in
    let q : c.quietest-at.result < length c.args.marks.now = omega (arith, p, c.requires.flagged) in
    search rules

pub bounds-marks-at : goal.bounds-marks-at
bounds-marks-at c =
    omega (arith, c.requires.flagged, step_inside c.args.block c.args.last c.args.k c.args.levels.now c.args.marks.now c.requires c.if-marks-k-ne0.false c.block_end-end.result c.block_end-end.ensures c.quietest-at.result c.quietest-at.ensures)

pub returns : goal.returns
returns c = let both = step_open c.args.block c.args.last c.args.k c.args.levels.now c.args.marks.now c.if-marks-k-ne0.false _ _ c.block_end-end.ensures c.quietest-at.ensures in record { value = both.0; marks_after = both.1 }
