-- The limits bound both products, so that they fit in 64 bits.
use native.Mathlib.Nat.{mul-le-mul}
use Rattle.grid.specs.Boundary.{start_of}
use Rattle.grid.specs.FitLaws.{start_fits}
use Rattle.std.proofs.Common.{rules}
use Rattle.std.proofs.Common.{arith}
use Rattle.grid.proofs.boundary.FrameGrid.start.Goals as goal

pub overflow_mul-result : goal.overflow_mul-result
overflow_mul-result c = omega (arith, mul-le-mul c.requires.bounded.hop c.requires.bounded.rate)

pub overflow_mul-result-2 : goal.overflow_mul-result-2
overflow_mul-result-2 c = omega (arith, start_fits c.args.self c.requires.bounded c.args.k c.requires.k_bound)

pub returns : goal.returns
unfolding start_of
returns c = search rules
