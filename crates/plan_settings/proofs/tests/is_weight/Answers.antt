-- `tests::is_weight`: finite first, and then the comparison with zero.
use lib.Ieee.{of_bits}
use Rattle.plan_settings.specs.Tests.{is_weight}
use Rattle.plan_settings.proofs.tests.is_weight.Goals as goal

pub returns-then-is_finite_f64 : goal.returns-then-is_finite_f64
unfolding is_weight of_bits
returns-then-is_finite_f64 c = rw (← c.is_finite_f64.ensures, c.if-is_finite_f64.true)

pub returns-else-is_finite_f64 : goal.returns-else-is_finite_f64
unfolding is_weight of_bits
returns-else-is_finite_f64 c = rw (← c.is_finite_f64.ensures, c.if-is_finite_f64.false)
