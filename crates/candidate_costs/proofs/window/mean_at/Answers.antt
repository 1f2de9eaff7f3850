-- `window::mean_at`: the part from `from` to `to` is the window, and it holds frame i at least.
use Prim.Native.Nat.{◌-◌, ◌^◌}
use Rattle.std.proofs.Common.{arith}
use lib.Dec.{le→leb}
use lib.Ieee.{in_float}
use Rattle.candidate_costs.specs.WindowLaws.{part_sums, window_mean}
use Rattle.candidate_costs.proofs.window.mean_at.Goals as goal

pub sum-requires : goal.sum-requires
sum-requires c = let both = part_sums c.args.width c.args.values.now c.saturating_sub-from.result c.min-to.result c.requires.windowed
    (omega (arith, c.saturating_sub-from.ensures, c.min-to.ensures, c.requires.windowed.some, c.requires.i_in_bounds)) (omega (arith, c.min-to.ensures)) in record { part_nonzero = both.0; part_finite = both.1 }

pub int_to_float-result : goal.int_to_float-result
unfolding in_float
int_to_float-result c =
    le→leb (c.min-to.result - c.saturating_sub-from.result) (2 ^ 53) (omega (arith, c.min-to.ensures, c.requires.windowed.few))

pub returns : goal.returns
returns c =
    window_mean c.args.width c.args.values.now c.args.i c.saturating_sub-from.result c.min-to.result
    c.saturating_sub-from.ensures c.min-to.ensures c.sum.result c.sum.ensures
