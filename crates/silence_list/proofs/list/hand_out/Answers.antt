-- As many numbers as stand in front; either way the three work lists are cleared after the last use.
use lib.Seq.{length-take-le}
use Rattle.std.proofs.Common.{arith}
use mathlib.Core.Path.{sym}
use Rattle.silence_list.specs.SilencesLaws.{handed-short, handed-found}
use Rattle.silence_list.proofs.list.hand_out.Goals as goal

pub returns-then-out-n : goal.returns-then-out-n
returns-then-out-n c =
    handed-short _ _ _ _ c.clear_work.ensures
    (omega (arith, length-take-le c.args.n c.args.work_u32.now c.requires, c.if-out-n.true))

pub slice_bounds-put_front-end-2 : goal.slice_bounds-put_front-end-2
slice_bounds-put_front-end-2 c = sym (length-take-le c.args.n c.args.work_u32.now c.requires)

pub put_front-requires : goal.put_front-requires
put_front-requires c = omega (arith, length-take-le c.args.n c.args.work_u32.now c.requires, c.if-out-n.false)

pub returns : goal.returns
returns c =
    handed-found _ _ _ _ c.clear_work-2.ensures c.args.n _
    (length-take-le c.args.n c.args.work_u32.now c.requires) c.if-out-n.false c.put_front.ensures
