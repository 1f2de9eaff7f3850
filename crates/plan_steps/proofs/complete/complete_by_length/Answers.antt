-- `complete::complete_by_length`: the candidates stand in work memory when points between neighbours are marked, and the second walk finds both.
use Rattle.plan_steps.specs.CompleteLaws.{collectable, collected_in, completable, bridged_held_lem, bridged-with, named_stands}
use Rattle.std.proofs.Common.{arith}
use Rattle.plan_steps.proofs.complete.complete_by_length.Goals as goal

pub collect-found-requires : goal.collect-found-requires
collect-found-requires c = collectable c.args.x c.args.g c.args.span c.args.work_u32.now c.args.work_f64.now c.requires.span_held c.requires.collect_room

pub overflow_sub-found : goal.overflow_sub-found
overflow_sub-found c =
    let f = collected_in c.args.x c.args.g c.args.span c.args.work_u32.now c.args.work_f64.now c.requires.span_held c.requires.collect_room _ _ _ c.collect-found.ensures.value c.collect-found.ensures.work_u32_after c.collect-found.ensures.work_f64_after in
    omega (arith, f.some, f.stands.number)

pub complete_max-requires : goal.complete_max-requires
complete_max-requires c =
    let f = collected_in c.args.x c.args.g c.args.span c.args.work_u32.now c.args.work_f64.now c.requires.span_held c.requires.collect_room _ _ _ c.collect-found.ensures.value c.collect-found.ensures.work_u32_after c.collect-found.ensures.work_f64_after in
    completable c.args.x c.args.g c.args.span c.args.work_u32.now c.args.work_f64.now c.requires.span_held c.requires.collect_room c.args.max _ _ _ f c.work_u32-1.given _ _ c.marks_at-marks.ensures c.entries_at-entries.ensures

pub collect-requires : goal.collect-requires
collect-requires c =
    let f = collected_in c.args.x c.args.g c.args.span c.args.work_u32.now c.args.work_f64.now c.requires.span_held c.requires.collect_room _ _ _ c.collect-found.ensures.value c.collect-found.ensures.work_u32_after c.collect-found.ensures.work_f64_after in
    collectable c.args.x c.args.g c.args.span _ _
    (bridged_held_lem c.args.x c.args.g c.args.span c.args.work_u32.now c.args.work_f64.now c.requires.span_held c.requires.collect_room c.args.max _ _ _ f c.work_u32-1.given _ _ c.marks_at-marks.ensures c.entries_at-entries.ensures _ c.complete_max.ensures)
    (record { u32s = omega (arith, c.requires.collect_room.u32s, c.work_u32-1.given, c.work_u32-2-1.given); f64s = omega (arith, c.requires.collect_room.f64s, c.work_f64-1.given) })

pub returns : goal.returns
returns c =
    let f = collected_in c.args.x c.args.g c.args.span c.args.work_u32.now c.args.work_f64.now c.requires.span_held c.requires.collect_room _ _ _ c.collect-found.ensures.value c.collect-found.ensures.work_u32_after c.collect-found.ensures.work_f64_after in
    named_stands c.args.x c.args.g c.args.span _ _
    (bridged_held_lem c.args.x c.args.g c.args.span c.args.work_u32.now c.args.work_f64.now c.requires.span_held c.requires.collect_room c.args.max _ _ _ f c.work_u32-1.given _ _ c.marks_at-marks.ensures c.entries_at-entries.ensures _ c.complete_max.ensures)
    (record { u32s = omega (arith, c.requires.collect_room.u32s, c.work_u32-1.given, c.work_u32-2-1.given); f64s = omega (arith, c.requires.collect_room.f64s, c.work_f64-1.given) })
    _
    (bridged-with c.args.x c.args.g c.args.span c.args.work_u32.now c.args.work_f64.now c.requires.span_held c.requires.collect_room c.args.max _ _ _ f c.work_u32-1.given _ _ c.marks_at-marks.ensures c.entries_at-entries.ensures _ c.complete_max.ensures)
    _ _ _ c.collect.ensures.value c.collect.ensures.work_u32_after c.collect.ensures.work_f64_after
