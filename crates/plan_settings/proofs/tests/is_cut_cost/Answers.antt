-- `tests::is_cut_cost`: finite first, and then the comparison with zero.
use lib.Ieee.{of_bits}
use Rattle.plan_settings.specs.Tests.{is_cut_cost}
use Rattle.plan_settings.proofs.tests.is_cut_cost.Goals as goal

pub returns-then-is_finite_f64 : goal.returns-then-is_finite_f64
unfolding is_cut_cost of_bits
returns-then-is_finite_f64 c = rw (← c.is_finite_f64.ensures, c.if-is_finite_f64.true)

pub returns-else-is_finite_f64 : goal.returns-else-is_finite_f64
unfolding is_cut_cost of_bits
returns-else-is_finite_f64 c = rw (← c.is_finite_f64.ensures, c.if-is_finite_f64.false)
