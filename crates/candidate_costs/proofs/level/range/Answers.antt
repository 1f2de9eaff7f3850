-- `level::range`: a finite floor and reference have a number as their difference, so it is the same value as an f64.
use Rattle.std.proofs.Common.{rules}
use mathlib.Core.Bool.{not}
use lib.Dec.{T}
use lib.Ieee.{binary32, sub, is_nan, of_bits, of_int, round}
use Rattle.candidate_costs.specs.Normalize.{range_of}
use Rattle.candidate_costs.specs.NormalizeLaws.{span-number}
use Rattle.candidate_costs.proofs.level.range.Goals as goal

pub float_to_float-scale : goal.float_to_float-scale
float_to_float-scale c =
    let h : T (not (is_nan (sub binary32 c.args.scale.reference c.args.scale.floor))) = span-number c.args.scale c.requires in
    search rules

pub returns : goal.returns
unfolding range_of of_bits of_int round
returns c = c.max.ensures
