-- `pieces::write_cuts`: what is written so far, and the cuts of the rest of the path, make up all cuts.
use Rattle.std.proofs.Common.{arith}
use Prim.Native.Nat.{◌+◌, ◌*◌}
use native.Mathlib.Numerals.{add-one}
use lib.ListN.{get_or, length-drop}
use Rattle.plan_pieces.specs.AlongLaws.{cut_next, cuts-none, writing_start, writing_next, writing_done}
use Rattle.plan_pieces.proofs.pieces.write_cuts.Goals as goal

pub loop-i-init : goal.loop-i-init
loop-i-init c = writing_start _ _ _

pub overflow_cast-j : goal.overflow_cast-j
overflow_cast-j c = omega (arith, c.shared_slice_known-in-loop-i-1.given (c.loop-i.i + 1))

pub offset_bounds-ends-j : goal.offset_bounds-ends-j
offset_bounds-ends-j c = omega (arith, c.shared_slice_known-in-loop-i-1.given (c.loop-i.i + 1))

pub bounds-ends-j : goal.bounds-ends-j
bounds-ends-j c = c.requires.drawn.named (c.loop-i.i + 1) (omega (arith, c.loop-i-test.true, c.saturating_sub-cuts.ensures))

pub offset_bounds-ends-j-in-loop-i : goal.offset_bounds-ends-j-in-loop-i
offset_bounds-ends-j-in-loop-i c = omega (arith, c.shared_slice_known-in-loop-i-1.given (c.loop-i.i + 1))

pub bounds-ends-j-in-loop-i : goal.bounds-ends-j-in-loop-i
bounds-ends-j-in-loop-i c =
    let d = c.requires.drawn in
    omega (arith, d.paired, d.named (c.loop-i.i + 1) (omega (arith, c.loop-i-test.true, c.saturating_sub-cuts.ensures)))

pub overflow_mul-j : goal.overflow_mul-j
overflow_mul-j c = omega (arith, c.shared_slice_known-in-loop-i-1.given (c.loop-i.i + 1))

pub overflow_add-j-in-loop-i : goal.overflow_add-j-in-loop-i
overflow_add-j-in-loop-i c = omega (arith, c.shared_slice_known-in-loop-i-1.given (c.loop-i.i + 1))

pub offset_bounds-entries-j : goal.offset_bounds-entries-j
offset_bounds-entries-j c = omega (arith, c.shared_slice_known-in-loop-i-1.given (c.loop-i.i + 1))

pub bounds-entries-j : goal.bounds-entries-j
bounds-entries-j c =
    omega (arith, c.requires.left_in_bounds, c.requires.drawn.named (c.loop-i.i + 1) (omega (arith, c.loop-i-test.true, c.saturating_sub-cuts.ensures)))

pub put_three-requires : goal.put_three-requires
put_three-requires c = omega (arith, c.requires.path_in_bounds, c.loop-i-test.true, c.saturating_sub-cuts.ensures, c.loop-i.invariant.same)

pub loop-i-preserved : goal.loop-i-preserved
loop-i-preserved c =
    let j = get_or c.args.path.now (c.loop-i.i + 1) 0 in
    writing_next _ _ _ _ c.loop-i.i c.loop-i.invariant (omega (arith, c.loop-i-test.true, c.saturating_sub-cuts.ensures)) (get_or c.args.ends.now.left.now j 0) (get_or c.args.ends.now.right.now j 0) (get_or c.args.entries.now (3 * j + 2) 0) _
    (cut_next _ _ _ _ c.requires.drawn c.requires.left_in_bounds c.loop-i.i (omega (arith, c.loop-i-test.true, c.saturating_sub-cuts.ensures)) j (rw add-one))
    (omega (arith, c.requires.path_in_bounds, c.loop-i-test.true, c.saturating_sub-cuts.ensures)) (rw c.from-reason.ensures at c.put_three.ensures)

pub returns : goal.returns
returns c =
    writing_done _ _ _ _ c.loop-i.i c.loop-i.invariant (cuts-none _ _ _ _ (rw length-drop (omega (arith, c.loop-i-test.false, c.saturating_sub-cuts.ensures))))
