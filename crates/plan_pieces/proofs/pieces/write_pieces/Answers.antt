-- `pieces::write_pieces`: what is written so far, and the pieces of the rest of the path, make up all pieces.
use Rattle.std.proofs.Common.{arith}
use lib.ListN.{length-drop}
use Rattle.plan_pieces.specs.Along.{pieces_along_numbers}
use Rattle.plan_pieces.specs.AlongLaws.{piece_rises, piece_small, piece_next, pieces_none, writing_start, writing_next, writing_done}
use Rattle.plan_pieces.proofs.pieces.write_pieces.Goals as goal

pub loop-i-init : goal.loop-i-init
loop-i-init c = writing_start _ _ _

pub overflow_sub-p : goal.overflow_sub-p
overflow_sub-p c =
    piece_rises _ _ _ c.requires.drawn c.loop-i.i (omega (arith, c.loop-i-test.true, c.saturating_sub-pieces.ensures)) _ c.piece_at-p.ensures

pub flags_of-flags-requires : goal.flags_of-flags-requires
flags_of-flags-requires c =
    piece_small _ _ _ c.requires.drawn c.loop-i.i (omega (arith, c.loop-i-test.true, c.saturating_sub-pieces.ensures)) _ c.piece_at-p.ensures

pub loop-i-preserved : goal.loop-i-preserved
loop-i-preserved c =
    writing_next _ _ _ _ c.loop-i.i c.loop-i.invariant (omega (arith, c.loop-i-test.true, c.saturating_sub-pieces.ensures)) c.piece_at-p.result.start c.piece_at-p.result.end c.flags_of-flags.result _
    (piece_next _ _ _ c.requires.drawn c.loop-i.i (omega (arith, c.loop-i-test.true, c.saturating_sub-pieces.ensures)) _ c.piece_at-p.ensures _ _ _ _ _ (rw c.saturating_sub-pieces.ensures at c.is_tail-tail.ensures) c.flags_of-flags.ensures)
    (omega (arith, c.requires.path_in_bounds, c.loop-i-test.true, c.saturating_sub-pieces.ensures)) c.put_three.ensures

pub returns : goal.returns
unfolding pieces_along_numbers
returns c =
    writing_done _ _ _ _ c.loop-i.i c.loop-i.invariant (pieces_none _ _ _ _ _ _ _ (rw length-drop (omega (arith, c.loop-i-test.false, c.saturating_sub-pieces.ensures))))
