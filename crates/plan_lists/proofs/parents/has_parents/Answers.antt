-- `parents::has_parents`: 2^20 pieces times as many candidates fit in 64 bits.
use native.Mathlib.Nat.{mul-le-mul}
use Rattle.plan_lists.specs.Parents.{has_parents}
use Rattle.std.proofs.Common.{arith}
use Prim.Native.Nat.{◌≤◌}
use Rattle.plan_lists.proofs.parents.has_parents.Goals as goal

pub overflow_mul-result : goal.overflow_mul-result
overflow_mul-result c =
    let a : c.min.result ≤ 1048576 = omega (arith, c.min.ensures, c.requires.1) in
    let b : c.args.candidates ≤ 1048577 = omega (arith, c.requires.1) in
    omega (arith, mul-le-mul a b)

pub returns : goal.returns
unfolding has_parents
returns c = rw c.min.ensures
