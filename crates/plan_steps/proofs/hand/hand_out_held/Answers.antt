-- `hand::hand_out_held`: the parts that are lent are what work memory holds.
use Rattle.plan_steps.specs.HandLaws.{hand_left, hand_asked, hand_done}
use mathlib.Core.Path.{sym}
use Rattle.plan_steps.proofs.hand.hand_out_held.Goals as goal

pub slice_bounds-ends-end : goal.slice_bounds-ends-end
slice_bounds-ends-end c = sym (hand_left c.args.g.frames c.args.k c.args.len c.args.work_u32.now c.args.work_u64.now c.requires)

pub hand_out-requires : goal.hand_out-requires
hand_out-requires c = let both = hand_asked c.args.g.frames c.args.k c.args.len c.args.work_u32.now c.args.work_u64.now c.requires _ _ _ c.rights_at-rights.ensures c.entries_at-entries.ensures c.path_at-path.ensures in record { drawn = both.0; left_in_bounds = both.1.0; path_nonzero = both.1.1 }

pub returns : goal.returns
returns c =
    hand_done c.args.g.frames c.args.k c.args.len c.args.work_u32.now c.args.work_u64.now c.requires _ _ _ c.rights_at-rights.ensures c.entries_at-entries.ensures c.path_at-path.ensures c.args.min c.args.max _ _ c.hand_out.ensures
