-- `pieces::put_three` writes as the definition does.
use Rattle.std.proofs.Common.{arith}
use mathlib.Core.Path.{refl}
use Prim.Native.Nat.{◌+◌}
use lib.ListN.{set, length-set}
use Rattle.plan_pieces.specs.Along.{put_three}
use Rattle.plan_pieces.proofs.pieces.put_three.Goals as goal

pub bounds-out-at-2 : goal.bounds-out-at-2
bounds-out-at-2 c = omega (arith, c.requires, length-set c.args.out.now c.args.at c.args.a)

pub bounds-out-at-3 : goal.bounds-out-at-3
bounds-out-at-3 c =
    let xs = set c.args.out.now c.args.at c.args.a in
    omega (arith, c.requires, length-set c.args.out.now c.args.at c.args.a, length-set xs (c.args.at + 1) c.args.b)

pub returns : goal.returns
unfolding put_three
returns c = refl
