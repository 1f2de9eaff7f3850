-- `grid_point_marks::mark_grid_points`: the flags of blocked boundaries become marks in the same place.
use Rattle.candidate_finder.specs.GridPointMarks.{mark_ready, mark_done}
use lib.Seq.{length-take-le}
use Rattle.std.proofs.Common.{arith}
use mathlib.Core.Path.{sym}
use Rattle.candidate_finder.proofs.grid_point_marks.mark_grid_points.Goals as goal

pub slice_bounds-mark_points-end : goal.slice_bounds-mark_points-end
slice_bounds-mark_points-end c = sym (length-take-le c.side-side.result c.args.work_f64.now (omega (arith, c.side-side.ensures, c.requires.roomf)))

pub mark_points-requires : goal.mark_points-requires
mark_points-requires c =
    mark_ready c.args.gap c.args.g c.args.s c.args.span c.args.work_u32.now c.args.work_f64.now c.requires c.marks_at-base.result c.side-side.result c.marks_at-base.ensures c.side-side.ensures _ c.mark_blocked.ensures

pub returns : goal.returns
returns c =
    mark_done c.args.gap c.args.g c.args.s c.args.span c.args.work_u32.now c.args.work_f64.now c.requires c.marks_at-base.result c.side-side.result c.marks_at-base.ensures c.side-side.ensures _ c.mark_blocked.ensures _ c.mark_points.ensures
