-- `by_count::plan_by_count`: the first path is handed out where it suffices; else what stands in the fronts of work memory is as it was, and the reach is sought.
use Rattle.plan_pieces.specs.Output.{output_of}
use Rattle.plan_steps.specs.CompleteLaws.{collectable, collected_in}
use Rattle.plan_steps.specs.HeldLaws.{room_collects, room_stays}
use Rattle.plan_modes.specs.ByCountLaws.{under_few, under_parents, under_enough, under_asked, under-room, under-handed, under-suffices, under-front, under-levels, none-placed, kept_held, kept_after, count_short, count_first, count_second}
use Rattle.std.proofs.Common.{arith}
use mathlib.Core.Path.{◌∙◌}
use Rattle.plan_modes.proofs.by_count.plan_by_count.Goals as goal

pub maximum-max-requires : goal.maximum-max-requires
maximum-max-requires c = c.requires.asked_by_count.timed

pub collect-k-requires : goal.collect-k-requires
collect-k-requires c = collectable c.args.x c.args.g c.args.span c.args.work_u32.now c.args.work_f64.now c.requires.span_held (room_collects c.requires.span_room)

pub has_parents-requires : goal.has_parents-requires
has_parents-requires c =
    let f = collected_in c.args.x c.args.g c.args.span c.args.work_u32.now c.args.work_f64.now c.requires.span_held (room_collects c.requires.span_room) _ _ _ c.collect-k.ensures.value c.collect-k.ensures.work_u32_after c.collect-k.ensures.work_f64_after in
    let placed = none-placed c.args.x c.args.g c.args.settings c.args.count c.args.span c.args.work_u32.now c.args.work_u64.now c.args.work_f64.now c.requires.span_held c.requires.span_room c.requires.asked_by_count in
    let out = output_of c.args.pieces.now c.args.cuts.now in
    under_few c.args.x c.args.g c.args.settings c.args.count c.args.span c.args.work_u32.now c.args.work_u64.now c.args.work_f64.now c.requires.span_held c.requires.span_room c.requires.asked_by_count _ placed _ _ _ f.stands c.work_u32-1.given c.work_f64-1.given

pub returns-then-not-has_parents : goal.returns-then-not-has_parents
returns-then-not-has_parents c =
    let f = collected_in c.args.x c.args.g c.args.span c.args.work_u32.now c.args.work_f64.now c.requires.span_held (room_collects c.requires.span_room) _ _ _ c.collect-k.ensures.value c.collect-k.ensures.work_u32_after c.collect-k.ensures.work_f64_after in
    let placed = none-placed c.args.x c.args.g c.args.settings c.args.count c.args.span c.args.work_u32.now c.args.work_u64.now c.args.work_f64.now c.requires.span_held c.requires.span_room c.requires.asked_by_count in
    let out = output_of c.args.pieces.now c.args.cuts.now in
    count_short c.args.x c.args.g c.args.settings c.args.count c.args.span c.args.work_u32.now c.args.work_u64.now c.args.work_f64.now c.requires.span_held c.requires.span_room c.requires.asked_by_count c.maximum-max.result c.maximum-max.ensures _ out
    (under_parents c.args.x c.args.g c.args.settings c.args.count c.args.span c.args.work_u32.now c.args.work_u64.now c.args.work_f64.now c.requires.span_held c.requires.span_room c.requires.asked_by_count _ placed _ _ _ f.stands c.work_u32-1.given c.work_f64-1.given _ _ c.has_parents.ensures ∙ c.if-not-has_parents.true)

pub lengths_by_count-l-requires : goal.lengths_by_count-l-requires
lengths_by_count-l-requires c = record { timed = c.requires.asked_by_count.timed; in_pieces = c.requires.asked_by_count.pieces }

pub search_by_count-solved-requires : goal.search_by_count-solved-requires
search_by_count-solved-requires c = let f = collected_in c.args.x c.args.g c.args.span c.args.work_u32.now c.args.work_f64.now c.requires.span_held (room_collects c.requires.span_room) _ _ _ c.collect-k.ensures.value c.collect-k.ensures.work_u32_after c.collect-k.ensures.work_f64_after in
    let placed = none-placed c.args.x c.args.g c.args.settings c.args.count c.args.span c.args.work_u32.now c.args.work_u64.now c.args.work_f64.now c.requires.span_held c.requires.span_room c.requires.asked_by_count in
    let out = output_of c.args.pieces.now c.args.cuts.now in
    record { asked_over = under_asked c.args.x c.args.g c.args.settings c.args.count c.args.span c.args.work_u32.now c.args.work_u64.now c.args.work_f64.now c.requires.span_held c.requires.span_room c.requires.asked_by_count _ placed _ _ _ f.stands c.work_u32-1.given c.work_f64-1.given _ _ c.lengths_by_count-l.ensures; count_nonzero = under_enough c.args.x c.args.g c.args.settings c.args.count c.args.span c.args.work_u32.now c.args.work_u64.now c.args.work_f64.now c.requires.span_held c.requires.span_room c.requires.asked_by_count _ placed _ _ _ f.stands c.work_u32-1.given c.work_f64-1.given _ _ c.has_parents.ensures c.if-not-has_parents.false }

pub is_enough-requires : goal.is_enough-requires
is_enough-requires c = omega (arith, c.requires.asked_by_count.pieces.few)

pub hand_out_held-requires : goal.hand_out_held-requires
hand_out_held-requires c =
    let f = collected_in c.args.x c.args.g c.args.span c.args.work_u32.now c.args.work_f64.now c.requires.span_held (room_collects c.requires.span_room) _ _ _ c.collect-k.ensures.value c.collect-k.ensures.work_u32_after c.collect-k.ensures.work_f64_after in
    let placed = none-placed c.args.x c.args.g c.args.settings c.args.count c.args.span c.args.work_u32.now c.args.work_u64.now c.args.work_f64.now c.requires.span_held c.requires.span_room c.requires.asked_by_count in
    let out = output_of c.args.pieces.now c.args.cuts.now in
    under-room c.args.x c.args.g c.args.settings c.args.count c.args.span c.args.work_u32.now c.args.work_u64.now c.args.work_f64.now c.requires.span_held c.requires.span_room c.requires.asked_by_count _ placed _ _ _ f.stands c.work_u32-1.given c.work_f64-1.given _ _ c.lengths_by_count-l.ensures
    _ _ _ _ c.search_by_count-solved.ensures c.work_u32-2-1.given c.work_u64-1.given

pub shape_of-work_u32-then-is_enough : goal.shape_of-work_u32-then-is_enough
shape_of-work_u32-then-is_enough c = c.work_u32-2-1.given ∙ c.work_u32-1.given

pub shape_of-work_f64-then-is_enough : goal.shape_of-work_f64-then-is_enough
shape_of-work_f64-then-is_enough c = c.work_f64-2-1.given ∙ c.work_f64-1.given

pub returns-then-is_enough : goal.returns-then-is_enough
returns-then-is_enough c =
    let f = collected_in c.args.x c.args.g c.args.span c.args.work_u32.now c.args.work_f64.now c.requires.span_held (room_collects c.requires.span_room) _ _ _ c.collect-k.ensures.value c.collect-k.ensures.work_u32_after c.collect-k.ensures.work_f64_after in
    let placed = none-placed c.args.x c.args.g c.args.settings c.args.count c.args.span c.args.work_u32.now c.args.work_u64.now c.args.work_f64.now c.requires.span_held c.requires.span_room c.requires.asked_by_count in
    let out = output_of c.args.pieces.now c.args.cuts.now in
    let fits = under_parents c.args.x c.args.g c.args.settings c.args.count c.args.span c.args.work_u32.now c.args.work_u64.now c.args.work_f64.now c.requires.span_held c.requires.span_room c.requires.asked_by_count _ placed _ _ _ f.stands c.work_u32-1.given c.work_f64-1.given _ _ c.has_parents.ensures ∙ c.if-not-has_parents.false in
    let enough = under-suffices c.args.x c.args.g c.args.settings c.args.count c.args.span c.args.work_u32.now c.args.work_u64.now c.args.work_f64.now c.requires.span_held c.requires.span_room c.requires.asked_by_count _ placed _ _ _ f.stands c.work_u32-1.given c.work_f64-1.given _ _ c.lengths_by_count-l.ensures
    _ _ _ _ c.search_by_count-solved.ensures c.work_u32-2-1.given c.work_u64-1.given _ c.is_enough.ensures ∙ c.if-is_enough.true in
    count_first c.args.x c.args.g c.args.settings c.args.count c.args.span c.args.work_u32.now c.args.work_u64.now c.args.work_f64.now c.requires.span_held c.requires.span_room c.requires.asked_by_count c.maximum-max.result c.maximum-max.ensures _ out fits enough _
    (under-handed c.args.x c.args.g c.args.settings c.args.count c.args.span c.args.work_u32.now c.args.work_u64.now c.args.work_f64.now c.requires.span_held c.requires.span_room c.requires.asked_by_count _ placed _ _ _ f.stands c.work_u32-1.given c.work_f64-1.given _ _ c.lengths_by_count-l.ensures
    _ _ _ _ c.search_by_count-solved.ensures c.work_u32-2-1.given c.work_u64-1.given c.maximum-max.result c.maximum-max.ensures out _ c.hand_out_held.ensures)

pub plan_after-requires : goal.plan_after-requires
plan_after-requires c = let f = collected_in c.args.x c.args.g c.args.span c.args.work_u32.now c.args.work_f64.now c.requires.span_held (room_collects c.requires.span_room) _ _ _ c.collect-k.ensures.value c.collect-k.ensures.work_u32_after c.collect-k.ensures.work_f64_after in
    let placed = none-placed c.args.x c.args.g c.args.settings c.args.count c.args.span c.args.work_u32.now c.args.work_u64.now c.args.work_f64.now c.requires.span_held c.requires.span_room c.requires.asked_by_count in
    let out = output_of c.args.pieces.now c.args.cuts.now in
    record { span_held = kept_held c.args.x c.args.g c.args.settings c.args.count c.args.span c.args.work_u32.now c.args.work_u64.now c.args.work_f64.now c.requires.span_held c.requires.span_room c.requires.asked_by_count _ _ (under-front c.args.x c.args.g c.args.settings c.args.count c.args.span c.args.work_u32.now c.args.work_u64.now c.args.work_f64.now c.requires.span_held c.requires.span_room c.requires.asked_by_count _ placed _ _ _ f.stands c.work_u32-1.given c.work_f64-1.given _ _ c.lengths_by_count-l.ensures _ _ _ _ c.search_by_count-solved.ensures c.work_u32-2-1.given c.work_u64-1.given ∙ f.front) (under-levels c.args.x c.args.g c.args.settings c.args.count c.args.span c.args.work_u32.now c.args.work_u64.now c.args.work_f64.now c.requires.span_held c.requires.span_room c.requires.asked_by_count _ placed _ _ _ f.stands c.work_u32-1.given c.work_f64-1.given _ _ c.lengths_by_count-l.ensures _ _ _ _ c.search_by_count-solved.ensures c.work_u32-2-1.given c.work_u64-1.given ∙ f.levels); span_room = room_stays c.requires.span_room (c.work_u32-2-1.given ∙ c.work_u32-1.given) c.work_u64-1.given (c.work_f64-2-1.given ∙ c.work_f64-1.given); asked_by_count = c.requires.asked_by_count }

pub shape_of-work_u32 : goal.shape_of-work_u32
shape_of-work_u32 c = c.work_u32-3-1.given ∙ c.work_u32-2-1.given ∙ c.work_u32-1.given

pub shape_of-work_f64 : goal.shape_of-work_f64
shape_of-work_f64 c = c.work_f64-3-1.given ∙ c.work_f64-2-1.given ∙ c.work_f64-1.given

pub returns : goal.returns
returns c =
    let f = collected_in c.args.x c.args.g c.args.span c.args.work_u32.now c.args.work_f64.now c.requires.span_held (room_collects c.requires.span_room) _ _ _ c.collect-k.ensures.value c.collect-k.ensures.work_u32_after c.collect-k.ensures.work_f64_after in
    let placed = none-placed c.args.x c.args.g c.args.settings c.args.count c.args.span c.args.work_u32.now c.args.work_u64.now c.args.work_f64.now c.requires.span_held c.requires.span_room c.requires.asked_by_count in
    let out = output_of c.args.pieces.now c.args.cuts.now in
    let fits = under_parents c.args.x c.args.g c.args.settings c.args.count c.args.span c.args.work_u32.now c.args.work_u64.now c.args.work_f64.now c.requires.span_held c.requires.span_room c.requires.asked_by_count _ placed _ _ _ f.stands c.work_u32-1.given c.work_f64-1.given _ _ c.has_parents.ensures ∙ c.if-not-has_parents.false in
    let enough = under-suffices c.args.x c.args.g c.args.settings c.args.count c.args.span c.args.work_u32.now c.args.work_u64.now c.args.work_f64.now c.requires.span_held c.requires.span_room c.requires.asked_by_count _ placed _ _ _ f.stands c.work_u32-1.given c.work_f64-1.given _ _ c.lengths_by_count-l.ensures _ _ _ _ c.search_by_count-solved.ensures c.work_u32-2-1.given c.work_u64-1.given _ c.is_enough.ensures ∙ c.if-is_enough.false in
    count_second c.args.x c.args.g c.args.settings c.args.count c.args.span c.args.work_u32.now c.args.work_u64.now c.args.work_f64.now c.requires.span_held c.requires.span_room c.requires.asked_by_count c.maximum-max.result c.maximum-max.ensures _ out fits enough _
    (kept_after c.args.x c.args.g c.args.settings c.args.count c.args.span c.args.work_u32.now c.args.work_u64.now c.args.work_f64.now c.requires.span_held c.requires.span_room c.requires.asked_by_count _ _ (under-front c.args.x c.args.g c.args.settings c.args.count c.args.span c.args.work_u32.now c.args.work_u64.now c.args.work_f64.now c.requires.span_held c.requires.span_room c.requires.asked_by_count _ placed _ _ _ f.stands c.work_u32-1.given c.work_f64-1.given _ _ c.lengths_by_count-l.ensures _ _ _ _ c.search_by_count-solved.ensures c.work_u32-2-1.given c.work_u64-1.given ∙ f.front) (under-levels c.args.x c.args.g c.args.settings c.args.count c.args.span c.args.work_u32.now c.args.work_u64.now c.args.work_f64.now c.requires.span_held c.requires.span_room c.requires.asked_by_count _ placed _ _ _ f.stands c.work_u32-1.given c.work_f64-1.given _ _ c.lengths_by_count-l.ensures _ _ _ _ c.search_by_count-solved.ensures c.work_u32-2-1.given c.work_u64-1.given ∙ f.levels) _ _ c.parent-1.given out _ c.plan_after.ensures)
