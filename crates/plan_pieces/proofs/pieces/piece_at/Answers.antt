-- `pieces::piece_at`: both candidates are named by the path, so their ends can be read.
use Rattle.std.proofs.Common.{arith}
use Prim.Native.Nat.{◌+◌}
use native.Mathlib.Numerals.{add-one}
use Rattle.plan_pieces.proofs.pieces.piece_at.Goals as goal

pub overflow_cast-from : goal.overflow_cast-from
overflow_cast-from c = omega (arith, c.shared_slice_known-1.given c.args.i)

pub overflow_cast-to : goal.overflow_cast-to
overflow_cast-to c = omega (arith, c.shared_slice_known-2-1.given (c.args.i + 1))

pub offset_bounds-ends-from : goal.offset_bounds-ends-from
offset_bounds-ends-from c = omega (arith, c.shared_slice_known-1.given c.args.i)

pub bounds-ends-from : goal.bounds-ends-from
bounds-ends-from c = let d = c.requires.drawn in omega (arith, d.paired, d.named c.args.i (omega (arith, c.requires.i_in_bounds)))

pub offset_bounds-ends-to : goal.offset_bounds-ends-to
offset_bounds-ends-to c = omega (arith, c.shared_slice_known-2-1.given (c.args.i + 1))

pub bounds-ends-to : goal.bounds-ends-to
bounds-ends-to c = c.requires.drawn.named (c.args.i + 1) (omega (arith, c.requires.i_in_bounds))

pub returns : goal.returns
returns c = rw add-one
