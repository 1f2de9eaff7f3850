-- `by_length::plan_by_length`: completed candidates, the best path over them, and the plan along it.
use Rattle.plan_steps.specs.HeldLaws.{room_collects}
use Rattle.plan_modes.specs.ByLengthLaws.{length_asked, length-room, length-handed}
use Rattle.plan_modes.proofs.by_length.plan_by_length.Goals as goal

pub maximum-max-requires : goal.maximum-max-requires
maximum-max-requires c = c.requires.asked_by_length.timed

pub complete_by_length-k-requires : goal.complete_by_length-k-requires
complete_by_length-k-requires c = record { span_held = c.requires.span_held; collect_room = room_collects c.requires.span_room }

pub lengths_by_length-l-requires : goal.lengths_by_length-l-requires
lengths_by_length-l-requires c = c.requires.asked_by_length.timed

pub search_by_length-solved-requires : goal.search_by_length-solved-requires
search_by_length-solved-requires c =
    length_asked c.args.x c.args.g c.args.settings c.args.span c.args.work_u32.now c.args.work_u64.now c.args.work_f64.now c.requires.span_held c.requires.span_room c.requires.asked_by_length c.maximum-max.result c.maximum-max.ensures _ _ _
    c.complete_by_length-k.ensures c.work_u32-1.given c.work_f64-1.given _ c.lengths_by_length-l.ensures

pub hand_out_held-requires : goal.hand_out_held-requires
hand_out_held-requires c =
    length-room c.args.x c.args.g c.args.settings c.args.span c.args.work_u32.now c.args.work_u64.now c.args.work_f64.now c.requires.span_held c.requires.span_room c.requires.asked_by_length c.maximum-max.result c.maximum-max.ensures _ _ _
    c.complete_by_length-k.ensures c.work_u32-1.given c.work_f64-1.given _ c.lengths_by_length-l.ensures
    _ _ _ _ c.search_by_length-solved.ensures c.work_u32-2-1.given c.work_u64-1.given

pub returns : goal.returns
returns c =
    length-handed c.args.x c.args.g c.args.settings c.args.span c.args.work_u32.now c.args.work_u64.now c.args.work_f64.now c.requires.span_held c.requires.span_room c.requires.asked_by_length c.maximum-max.result c.maximum-max.ensures _ _ _
    c.complete_by_length-k.ensures c.work_u32-1.given c.work_f64-1.given _ c.lengths_by_length-l.ensures
    _ _ _ _ c.search_by_length-solved.ensures c.work_u32-2-1.given c.work_u64-1.given _ _ c.hand_out_held.ensures
