-- `walk::walk` reads one row for each piece: at each turn the path of the pieces left, and then what is written, is the whole path.
use Rattle.path_by_count.specs.WalkLaws.{walking_start, walking_more, walking_inside, walking_done}
use Rattle.std.proofs.Common.{arith}
use mathlib.Core.Path.{◌≡◌, refl}
use Prim.Native.Nat.{◌+◌, ◌-◌, ◌*◌}
use lib.ListN.{get_or, length-set}
use Rattle.path_by_count.proofs.walk.walk.Goals as goal

pub loop-k-init : goal.loop-k-init
loop-k-init c = (refl, walking_start c.requires.back c.requires.pieces_in_bounds)

pub overflow_mul-j : goal.overflow_mul-j
overflow_mul-j c = omega (arith, walking_inside c.requires.back (c.loop-k.k - 1) (omega arith) c.loop-k.invariant.1, c.well_formed)

pub overflow_add-j : goal.overflow_add-j
overflow_add-j c = omega (arith, walking_inside c.requires.back (c.loop-k.k - 1) (omega arith) c.loop-k.invariant.1, c.well_formed)

pub offset_bounds-parent-k : goal.offset_bounds-parent-k
offset_bounds-parent-k c = omega (arith, walking_inside c.requires.back (c.loop-k.k - 1) (omega arith) c.loop-k.invariant.1, c.well_formed)

pub bounds-parent-k : goal.bounds-parent-k
bounds-parent-k c = walking_inside c.requires.back (c.loop-k.k - 1) (omega arith) c.loop-k.invariant.1

pub overflow_cast-j : goal.overflow_cast-j
overflow_cast-j c = omega (arith, c.type_inv.parent ((c.loop-k.k - 1) * c.args.n + c.loop-k.j))

pub loop-k-preserved : goal.loop-k-preserved
loop-k-preserved c =
    (simp length-set c.loop-k.invariant.0, walking_more c.requires.back (c.loop-k.k - 1) (c.loop-k.k - 1 + 1) c.requires.pieces_in_bounds (omega arith) (omega arith) c.loop-k.invariant.1)

pub returns : goal.returns
returns c =
    let e : c.loop-k.k ≡ 0 = omega arith in
    walking_done c.requires.back c.requires.pieces_in_bounds (rw e at c.loop-k.invariant.1)
