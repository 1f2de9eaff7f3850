-- `backtrack::backtrack` writes the way from the back: the last candidates are in place, and the way to the current one is left.
use Rattle.std.proofs.Common.{arith}
use Rattle.path_by_length.specs.WalkLaws.{writing_back_start, writing_back_room, writing_back_later, writing_back_next, writing_back_done}
use Rattle.path_by_length.proofs.backtrack.backtrack.Goals as goal

pub loop-n-init : goal.loop-n-init
loop-n-init c = writing_back_start c.requires.parents.falling c.args.path.now (omega (arith, c.requires.len_value, c.requires.len_in_bounds)) c.args.len c.requires.len_value

pub overflow_cast-path : goal.overflow_cast-path
overflow_cast-path c = omega (arith, c.loop-n.invariant.0, c.requires.parents.few)

pub bounds-path-n : goal.bounds-path-n
bounds-path-n c = omega (arith, writing_back_room c.requires.parents.falling c.args.path.now (omega (arith, c.requires.len_value, c.requires.len_in_bounds)) c.loop-n.path c.loop-n.n c.loop-n.j c.loop-n.invariant)

pub overflow_cast-j : goal.overflow_cast-j
overflow_cast-j c = omega (arith, c.type_inv.parent c.loop-n.j)

pub loop-n-preserved : goal.loop-n-preserved
loop-n-preserved c =
    writing_back_next c.requires.parents.falling c.args.path.now (omega (arith, c.requires.len_value, c.requires.len_in_bounds)) c.loop-n.path c.loop-n.n c.loop-n.j
    (writing_back_later c.requires.parents.falling c.args.path.now (omega (arith, c.requires.len_value, c.requires.len_in_bounds)) c.loop-n.path c.loop-n.n c.loop-n.j c.loop-n-test.true c.loop-n.invariant)
    c.loop-n.invariant

pub bounds-path-0 : goal.bounds-path-0
bounds-path-0 c = omega (arith, writing_back_room c.requires.parents.falling c.args.path.now (omega (arith, c.requires.len_value, c.requires.len_in_bounds)) c.loop-n.path c.loop-n.n c.loop-n.j c.loop-n.invariant)

pub returns : goal.returns
returns c =
    writing_back_done c.requires.parents.falling c.args.path.now (omega (arith, c.requires.len_value, c.requires.len_in_bounds)) c.loop-n.path c.loop-n.n c.loop-n.j c.loop-n-test.false c.loop-n.invariant
