-- `complete::complete_by_count`: the reach of the span that is held; under it the marks that are added give the completed candidates.
use lib.Seq.{length-take-le}
use Rattle.plan_steps.specs.CompleteLaws.{collectable, named_stands}
use Rattle.plan_steps.specs.CountLaws.{ground_founded, ground-room, ground_few, sought_is, count_held, count_with}
use Rattle.std.proofs.Common.{arith}
use mathlib.Core.Path.{sym}
use Prim.Native.Nat.{◌*◌}
use Rattle.plan_steps.proofs.complete.complete_by_count.Goals as goal

pub slice_bounds-reach-end-2 : goal.slice_bounds-reach-end-2
slice_bounds-reach-end-2 c = sym (length-take-le (2 * c.args.span.silences) c.args.work_u32.now (ground-room c.args.x c.args.g c.args.span c.args.work_u32.now c.args.work_f64.now c.requires.span_held c.requires.collect_room).held)

pub reach-limit-requires : goal.reach-limit-requires
reach-limit-requires c = record { founded = ground_founded c.args.x c.args.g c.args.span c.args.work_u32.now c.args.work_f64.now c.requires.span_held c.requires.collect_room; count_nonzero = c.requires.count_nonzero }

pub mark_cuts-requires : goal.mark_cuts-requires
mark_cuts-requires c = record { mark_room = ground-room c.args.x c.args.g c.args.span c.args.work_u32.now c.args.work_f64.now c.requires.span_held c.requires.collect_room; last_le_max_frames = ground_few c.args.x c.args.g c.args.span c.args.work_u32.now c.args.work_f64.now c.requires.span_held c.requires.collect_room }

pub collect-candidates-requires : goal.collect-candidates-requires
collect-candidates-requires c =
    let is = sought_is c.args.x c.args.g c.args.span c.args.work_u32.now c.args.work_f64.now c.requires.span_held c.requires.collect_room c.args.max c.args.count _ c.reach-limit.ensures in
    collectable c.args.x c.args.g c.args.span _ _ (count_held c.args.x c.args.g c.args.span c.args.work_u32.now c.args.work_f64.now c.requires.span_held c.requires.collect_room c.args.max c.args.count _ c.requires.count_nonzero is _ c.mark_cuts.ensures)
    (record { u32s = omega (arith, c.requires.collect_room.u32s, c.work_u32-1.given); f64s = c.requires.collect_room.f64s })

pub returns : goal.returns
returns c =
    let is = sought_is c.args.x c.args.g c.args.span c.args.work_u32.now c.args.work_f64.now c.requires.span_held c.requires.collect_room c.args.max c.args.count _ c.reach-limit.ensures in
    record {
      reach = is;
      stands =
          named_stands c.args.x c.args.g c.args.span _ _ (count_held c.args.x c.args.g c.args.span c.args.work_u32.now c.args.work_f64.now c.requires.span_held c.requires.collect_room c.args.max c.args.count _ c.requires.count_nonzero is _ c.mark_cuts.ensures)
          (record { u32s = omega (arith, c.requires.collect_room.u32s, c.work_u32-1.given); f64s = c.requires.collect_room.f64s })
          _ (count_with c.args.x c.args.g c.args.span c.args.work_u32.now c.args.work_f64.now c.requires.span_held c.requires.collect_room c.args.max c.args.count _ c.requires.count_nonzero is _ c.mark_cuts.ensures) _ _ _ c.collect-candidates.ensures.value c.collect-candidates.ensures.work_u32_after c.collect-candidates.ensures.work_f64_after;
    }
