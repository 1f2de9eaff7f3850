-- `by_count::plan_after`: no room for the parents, or the plan along the best path over the completed candidates under the reach.
use Rattle.plan_pieces.specs.Output.{output_of}
use Rattle.plan_steps.specs.HeldLaws.{room_collects}
use Rattle.plan_modes.specs.ByCountLaws.{under_few, under_parents, under_enough, under_asked, under-room, under-handed, after-placed, after-short, after-planned}
use mathlib.Core.Path.{◌∙◌}
use Rattle.plan_modes.proofs.by_count.plan_after.Goals as goal

pub maximum-max-requires : goal.maximum-max-requires
maximum-max-requires c = c.requires.asked_by_count.timed

pub complete_by_count-completed-requires : goal.complete_by_count-completed-requires
complete_by_count-completed-requires c = record { span_held = c.requires.span_held; collect_room = room_collects c.requires.span_room; count_nonzero = c.requires.asked_by_count.some }

pub has_parents-requires : goal.has_parents-requires
has_parents-requires c =
    let t = c.complete_by_count-completed.ensures in
    let placed = after-placed c.args.x c.args.g c.args.settings c.args.count c.args.span c.args.work_u32.now c.args.work_u64.now c.args.work_f64.now c.requires.span_held c.requires.span_room c.requires.asked_by_count c.maximum-max.result c.maximum-max.ensures _ t.reach in
    under_few c.args.x c.args.g c.args.settings c.args.count c.args.span c.args.work_u32.now c.args.work_u64.now c.args.work_f64.now c.requires.span_held c.requires.span_room c.requires.asked_by_count _ placed _ _ _ t.stands c.work_u32-1.given c.work_f64-1.given

pub returns-then-not-has_parents : goal.returns-then-not-has_parents
returns-then-not-has_parents c =
    let t = c.complete_by_count-completed.ensures in
    let placed = after-placed c.args.x c.args.g c.args.settings c.args.count c.args.span c.args.work_u32.now c.args.work_u64.now c.args.work_f64.now c.requires.span_held c.requires.span_room c.requires.asked_by_count c.maximum-max.result c.maximum-max.ensures _ t.reach in
    let fails = under_parents c.args.x c.args.g c.args.settings c.args.count c.args.span c.args.work_u32.now c.args.work_u64.now c.args.work_f64.now c.requires.span_held c.requires.span_room c.requires.asked_by_count _ placed _ _ _ t.stands c.work_u32-1.given c.work_f64-1.given _ _ c.has_parents.ensures ∙ c.if-not-has_parents.true in
    after-short c.args.x c.args.g c.args.settings c.args.count c.args.span c.args.work_u32.now c.args.work_u64.now c.args.work_f64.now c.requires.span_held c.requires.span_room c.requires.asked_by_count c.maximum-max.result c.maximum-max.ensures _ t.reach _ (output_of c.args.pieces.now c.args.cuts.now) fails

pub lengths_by_count-l-requires : goal.lengths_by_count-l-requires
lengths_by_count-l-requires c = record { timed = c.requires.asked_by_count.timed; in_pieces = c.requires.asked_by_count.pieces }

pub search_by_count-solved-requires : goal.search_by_count-solved-requires
search_by_count-solved-requires c = let t = c.complete_by_count-completed.ensures in
    let placed = after-placed c.args.x c.args.g c.args.settings c.args.count c.args.span c.args.work_u32.now c.args.work_u64.now c.args.work_f64.now c.requires.span_held c.requires.span_room c.requires.asked_by_count c.maximum-max.result c.maximum-max.ensures _ t.reach in
    record { asked_over = under_asked c.args.x c.args.g c.args.settings c.args.count c.args.span c.args.work_u32.now c.args.work_u64.now c.args.work_f64.now c.requires.span_held c.requires.span_room c.requires.asked_by_count _ placed _ _ _ t.stands c.work_u32-1.given c.work_f64-1.given _ _ c.lengths_by_count-l.ensures; count_nonzero = under_enough c.args.x c.args.g c.args.settings c.args.count c.args.span c.args.work_u32.now c.args.work_u64.now c.args.work_f64.now c.requires.span_held c.requires.span_room c.requires.asked_by_count _ placed _ _ _ t.stands c.work_u32-1.given c.work_f64-1.given _ _ c.has_parents.ensures c.if-not-has_parents.false }

pub hand_out_held-requires : goal.hand_out_held-requires
hand_out_held-requires c =
    let t = c.complete_by_count-completed.ensures in
    let placed = after-placed c.args.x c.args.g c.args.settings c.args.count c.args.span c.args.work_u32.now c.args.work_u64.now c.args.work_f64.now c.requires.span_held c.requires.span_room c.requires.asked_by_count c.maximum-max.result c.maximum-max.ensures _ t.reach in
    under-room c.args.x c.args.g c.args.settings c.args.count c.args.span c.args.work_u32.now c.args.work_u64.now c.args.work_f64.now c.requires.span_held c.requires.span_room c.requires.asked_by_count _ placed _ _ _ t.stands c.work_u32-1.given c.work_f64-1.given _ _ c.lengths_by_count-l.ensures
    _ _ _ _ c.search_by_count-solved.ensures c.work_u32-2-1.given c.work_u64-1.given

pub shape_of-work_u32 : goal.shape_of-work_u32
shape_of-work_u32 c = c.work_u32-2-1.given ∙ c.work_u32-1.given

pub shape_of-work_f64 : goal.shape_of-work_f64
shape_of-work_f64 c = c.work_f64-2-1.given ∙ c.work_f64-1.given

pub returns : goal.returns
returns c =
    let t = c.complete_by_count-completed.ensures in
    let placed = after-placed c.args.x c.args.g c.args.settings c.args.count c.args.span c.args.work_u32.now c.args.work_u64.now c.args.work_f64.now c.requires.span_held c.requires.span_room c.requires.asked_by_count c.maximum-max.result c.maximum-max.ensures _ t.reach in
    let out = output_of c.args.pieces.now c.args.cuts.now in
    let fits = under_parents c.args.x c.args.g c.args.settings c.args.count c.args.span c.args.work_u32.now c.args.work_u64.now c.args.work_f64.now c.requires.span_held c.requires.span_room c.requires.asked_by_count _ placed _ _ _ t.stands c.work_u32-1.given c.work_f64-1.given _ _ c.has_parents.ensures ∙ c.if-not-has_parents.false in
    after-planned c.args.x c.args.g c.args.settings c.args.count c.args.span c.args.work_u32.now c.args.work_u64.now c.args.work_f64.now c.requires.span_held c.requires.span_room c.requires.asked_by_count c.maximum-max.result c.maximum-max.ensures _ t.reach _ out fits _
    (under-handed c.args.x c.args.g c.args.settings c.args.count c.args.span c.args.work_u32.now c.args.work_u64.now c.args.work_f64.now c.requires.span_held c.requires.span_room c.requires.asked_by_count _ placed _ _ _ t.stands c.work_u32-1.given c.work_f64-1.given _ _ c.lengths_by_count-l.ensures
    _ _ _ _ c.search_by_count-solved.ensures c.work_u32-2-1.given c.work_u64-1.given c.maximum-max.result c.maximum-max.ensures out _ c.hand_out_held.ensures)
