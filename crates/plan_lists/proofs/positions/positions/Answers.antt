-- `positions::positions` lends the front of the list for the left ends and the part behind it for the right ones.
use Rattle.std.proofs.Common.{arith}
use mathlib.Core.Path.{sym}
use Rattle.plan_lists.specs.WrittenLaws.{lent-front, lent-room, positions_written}
use Rattle.plan_lists.proofs.positions.positions.Goals as goal

pub slice_bounds-ends-end-2 : goal.slice_bounds-ends-end-2
slice_bounds-ends-end-2 c = sym (lent-front c.args.g c.args.candidates c.args.work_u32.now c.args.work_u64.now c.requires.positions_room)

pub ends-requires : goal.ends-requires
ends-requires c = record { bounded = c.requires.bounded; entries_room = rw c.entries_at-first.ensures (lent-room c.args.g c.args.candidates c.args.work_u32.now c.args.work_u64.now c.requires.positions_room _ 0 (lent-front c.args.g c.args.candidates c.args.work_u32.now c.args.work_u64.now c.requires.positions_room) (omega arith)) }

pub returns : goal.returns
returns c =
    let at_left = rw c.entries_at-first.ensures at c.ends.ensures in
    let at_right = rw (c.entries_at-first.ensures, c.rights_at-rights.ensures) at c.ends-2.ensures in
    rw c.rights_at-rights.ensures (positions_written c.args.g c.args.candidates c.args.work_u32.now c.args.work_u64.now c.requires.positions_room _ at_left _ at_right)
