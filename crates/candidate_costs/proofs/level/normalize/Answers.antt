-- `level::normalize`, by the domain.
use Rattle.std.proofs.Common.{rules}
use mathlib.Core.Path.{◌≡◌}
use mathlib.Core.Bool.{not}
use lib.Dec.{T}
use lib.Ieee.{is_nan, of_bits}
use Rattle.grid.specs.ValuesLaws.{value_number}
use Rattle.grid.specs.declared.validate.Domain.{Domain}
use Rattle.grid.specs.declared.validate.Domain.TheVariants.{Decibels, Scores}
use Rattle.candidate_costs.specs.Normalize.{normalize_of}
use Rattle.candidate_costs.proofs.level.normalize.Goals as goal

pub float_to_float-above : goal.float_to_float-above
float_to_float-above c =
    let h : T (not (is_nan c.args.scale.floor)) = value_number c.args.scale.floor c.requires.low_end in
    search rules

pub returns-in-Scores : goal.returns-in-Scores
unfolding normalize_of of_bits
returns-in-Scores c = let d : ◌≡◌ {A = Domain} c.args.domain Scores = cc in rw d c.clamp.ensures

pub returns-in-Decibels : goal.returns-in-Decibels
unfolding normalize_of of_bits
returns-in-Decibels c =
    let d : ◌≡◌ {A = Domain} c.args.domain Decibels = cc in
    rw (d, ← c.range.ensures) c.clamp-in-Decibels.ensures
