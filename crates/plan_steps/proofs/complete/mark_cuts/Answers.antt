-- `complete::mark_cuts`: the cuts of the greedy division are marked first and then those of the shares, from the same silences.
use Rattle.plan_steps.specs.CutsAddedLaws.{shares-room, sharable, all-marked}
use lib.Seq.{length-take-le}
use mathlib.Core.Path.{sym}
use Prim.Native.Nat.{◌*◌}
use Rattle.plan_steps.proofs.complete.mark_cuts.Goals as goal

pub slice_bounds-silences-end-2 : goal.slice_bounds-silences-end-2
slice_bounds-silences-end-2 c = sym (length-take-le (2 * c.args.x.span.silences) c.args.work_u32.now c.requires.mark_room.held)

pub mark_shares-requires : goal.mark_shares-requires
mark_shares-requires c = record { mark_room = shares-room c.args.x c.args.count c.args.limit c.args.work_u32.now c.requires.mark_room _ c.marks_at-base.ensures c.requires.last_le_max_frames _ _ c.kept_frames-frames.ensures c.min-pieces.ensures _ c.mark_far.ensures; sharable = sharable c.args.x c.args.count c.args.limit c.args.work_u32.now c.requires.mark_room _ c.marks_at-base.ensures c.requires.last_le_max_frames _ _ c.kept_frames-frames.ensures c.min-pieces.ensures _ c.mark_far.ensures }

pub returns : goal.returns
returns c =
    all-marked c.args.x c.args.count c.args.limit c.args.work_u32.now c.requires.mark_room _ c.marks_at-base.ensures c.requires.last_le_max_frames _ _ c.kept_frames-frames.ensures c.min-pieces.ensures _ c.mark_far.ensures _ c.mark_shares.ensures
