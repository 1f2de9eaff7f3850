-- `window::sum` adds one value after another to the first; a finite value is a number, so it is the same value as an f64.
use Rattle.std.proofs.Common.{rules}
use mathlib.Core.Bool.{not}
use lib.Dec.{T}
use lib.Ieee.{nan, is_nan}
use lib.ListN.{get_or}
use Rattle.base_code.specs.Elements.{all-at}
use Rattle.grid.specs.Values.{is_finite}
use Rattle.grid.specs.ValuesLaws.{value_number}
use Rattle.candidate_costs.specs.WindowLaws.{later, later_finite, summing_start, summing_next, summing_done}
use Rattle.candidate_costs.proofs.window.sum.Goals as goal

pub float_to_float-total : goal.float_to_float-total
float_to_float-total c =
    let h : T (not (is_nan (get_or c.args.part.now 0 nan))) = value_number _ (all-at is_finite c.args.part.now 0 nan c.requires.part_nonzero c.requires.part_finite) in
    search rules

pub loop-value-init : goal.loop-value-init
loop-value-init c = summing_start c.args.part.now c.requires.part_nonzero

pub float_to_float-total-in-loop-value : goal.float_to_float-total-in-loop-value
float_to_float-total-in-loop-value c =
    let i = c.loop-value.value-index in
    let h : T (not (is_nan (get_or (later c.args.part.now) i nan))) = value_number _ (later_finite c.args.part.now i c.loop-value-test.true c.requires.part_finite) in
    search rules

pub loop-value-preserved : goal.loop-value-preserved
loop-value-preserved c = summing_next _ _ _ c.loop-value-test.true c.loop-value.invariant

pub returns : goal.returns
returns c = summing_done _ _ _ c.requires.part_nonzero c.loop-value-test.false c.loop-value.invariant
