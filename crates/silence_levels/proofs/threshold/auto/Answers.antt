-- `threshold::auto` goes by the cases of `auto_of`; the literals are the nearest values of the format.
use Rattle.std.proofs.Common.{◌≡◌}
use lib.Ieee.{of_bits, of_int, round}
use Rattle.grid.specs.declared.validate.Domain.{Domain}
use Rattle.grid.specs.declared.validate.Domain.TheVariants.{Decibels, Scores}
use Rattle.silence_levels.specs.Threshold.{auto_of}
use Rattle.silence_levels.proofs.threshold.auto.Goals as goal

pub returns-in-Decibels : goal.returns-in-Decibels
unfolding of_bits of_int auto_of
returns-in-Decibels c =
    let d : ◌≡◌ {A = Domain} c.args.domain Decibels = cc in
    rw (d, ← c.decibel_on-on.ensures)

pub returns-in-Scores : goal.returns-in-Scores
unfolding of_bits round auto_of
returns-in-Scores c =
    let d : ◌≡◌ {A = Domain} c.args.domain Scores = cc in
    rw d
