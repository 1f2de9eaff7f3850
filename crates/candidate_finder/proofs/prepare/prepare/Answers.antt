-- `prepare::prepare`: without frames the span is empty; else the silences, stretches and levels are held, and the grid points of the span are marked.
use Rattle.candidate_finder.specs.PrepareLaws.{no_frames, measured_fit, measured_empty, measured_markable, measured_ready}
use lib.Seq.{length-take-le}
use Rattle.grid.specs.declared.boundary.FrameGrid.{FrameGrid}
use Rattle.candidate_span.specs.SpacingLaws.{Spaced}
use Rattle.std.proofs.Common.{arith}
use mathlib.Core.Path.{sym, subst, ◌∙◌}
use Prim.Native.Nat.{◌*◌}
use lib.ListN.{length}
use Rattle.candidate_finder.proofs.prepare.prepare.Goals as goal

pub returns-then-n-eq0 : goal.returns-then-n-eq0
returns-then-n-eq0 c = record { says = no_frames c.args.settings.gap _ _ c.if-n-eq0.true }

pub hold-silences-requires : goal.hold-silences-requires
hold-silences-requires c = record { measurable = c.requires.measurable; values_nonzero = omega (arith, c.if-n-eq0.false) }

pub spacing_of-s-requires : goal.spacing_of-s-requires
spacing_of-s-requires c = let e = sym c.grid-grid.ensures in
    record { max_spaced = subst (λ (g : FrameGrid). Spaced g c.args.settings.max) e c.requires.max_spaced; pre_spaced = subst (λ (g : FrameGrid). Spaced g c.args.segment.pre) e c.requires.pre_spaced; tail_spaced = subst (λ (g : FrameGrid). Spaced g c.args.segment.tail) e c.requires.tail_spaced }

pub overflow_mul-silences : goal.overflow_mul-silences
overflow_mul-silences c = omega (arith, (measured_fit c.args.r c.args.segment c.args.settings c.args.readings.now.values.now c.args.readings.now.flags.now c.args.readings.now.levels.now (length c.args.work_u32.now) (length c.args.work_f64.now) c.requires _ _ _ c.hold-silences.ensures c.work_u32-1.given c.work_f64-1.given).1)

pub slice_bounds-ends-end : goal.slice_bounds-ends-end
slice_bounds-ends-end c = (measured_fit c.args.r c.args.segment c.args.settings c.args.readings.now.values.now c.args.readings.now.flags.now c.args.readings.now.levels.now (length c.args.work_u32.now) (length c.args.work_f64.now) c.requires _ _ _ c.hold-silences.ensures c.work_u32-1.given c.work_f64-1.given).0

pub slice_bounds-ends-end-2 : goal.slice_bounds-ends-end-2
slice_bounds-ends-end-2 c = sym (length-take-le (2 * c.hold-silences.result) _ (measured_fit c.args.r c.args.segment c.args.settings c.args.readings.now.values.now c.args.readings.now.flags.now c.args.readings.now.levels.now (length c.args.work_u32.now) (length c.args.work_f64.now) c.requires _ _ _ c.hold-silences.ensures c.work_u32-1.given c.work_f64-1.given).0)

pub mark_grid_points-requires : goal.mark_grid_points-requires
mark_grid_points-requires c =
    measured_markable c.args.r c.args.segment c.args.settings c.args.readings.now.values.now c.args.readings.now.flags.now c.args.readings.now.levels.now (length c.args.work_u32.now) (length c.args.work_f64.now) c.requires _ _ _ c.hold-silences.ensures c.work_u32-1.given c.work_f64-1.given _ _ c.grid-grid.ensures c.spacing_of-s.ensures _ (sym c.in_ok-ends.was ∙ c.ends.ensures)

pub returns-in_err-ends : goal.returns-in_err-ends
returns-in_err-ends c =
    rw c.from_residual.ensures (record { says = measured_empty c.args.r c.args.segment c.args.settings c.args.readings.now.values.now c.args.readings.now.flags.now c.args.readings.now.levels.now (length c.args.work_u32.now) (length c.args.work_f64.now) c.requires _ _ _ c.hold-silences.ensures c.work_u32-1.given c.work_f64-1.given _ _ c.grid-grid.ensures c.spacing_of-s.ensures (sym c.in_err-ends.was ∙ c.ends.ensures) })

pub returns : goal.returns
returns c =
    record { says = measured_ready c.args.r c.args.segment c.args.settings c.args.readings.now.values.now c.args.readings.now.flags.now c.args.readings.now.levels.now (length c.args.work_u32.now) (length c.args.work_f64.now) c.requires _ _ _ c.hold-silences.ensures c.work_u32-1.given c.work_f64-1.given _ _ c.grid-grid.ensures c.spacing_of-s.ensures _ (sym c.in_ok-ends.was ∙ c.ends.ensures) _ c.mark_grid_points.ensures _ c.context_with.ensures }
