-- `level::smoothed_at`, by the domain; for decibels a level is lent for each frame.
use mathlib.Core.Path.{◌≡◌}
use Rattle.std.proofs.Common.{arith}
use lib.ListN.{length}
use Rattle.grid.specs.declared.validate.Domain.{Domain}
use Rattle.grid.specs.declared.validate.Domain.TheVariants.{Decibels, Scores}
use Rattle.candidate_costs.specs.Level.{smoothed_at}
use Rattle.candidate_costs.specs.LevelLaws.{lent_each}
use Rattle.candidate_costs.proofs.level.smoothed_at.Goals as goal

pub mean_at-requires : goal.mean_at-requires
mean_at-requires c = record { windowed = c.requires.measured.windows; i_in_bounds = c.requires.i_in_bounds }

pub bounds-readings-i : goal.bounds-readings-i
bounds-readings-i c =
    let d : ◌≡◌ {A = Domain} c.args.domain Decibels = cc in
    let l : length c.args.readings.now.levels.now ≡ length c.args.readings.now.values.now = lent_each c.args.domain c.args.width c.args.readings.now.values.now c.args.readings.now.levels.now d c.requires.measured in
    omega (arith, l, c.requires.i_in_bounds)

pub returns-in-Scores : goal.returns-in-Scores
unfolding smoothed_at
returns-in-Scores c = let d : ◌≡◌ {A = Domain} c.args.domain Scores = cc in rw d c.mean_at.ensures

pub returns-in-Decibels : goal.returns-in-Decibels
unfolding smoothed_at
returns-in-Decibels c = let d : ◌≡◌ {A = Domain} c.args.domain Decibels = cc in rw d
