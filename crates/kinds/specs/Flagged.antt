-- The kinds that a flag says: a byte of a job that is 0 or not, or a bool of C.
use Rattle.std.specs.Prelude.{ℕ, Bool, true, false, cond}
use Rattle.grid.specs.declared.validate.Domain.{Domain}
use Rattle.grid.specs.declared.validate.Domain.TheVariants.{Decibels, Scores}
use Rattle.path_pieces.specs.declared.mode.Mode.{Mode}
use Rattle.path_pieces.specs.declared.mode.Mode.TheVariants.{ByLength, ByCount}
use Rattle.plan_settings.specs.declared.config.Gap.{Gap}
use Rattle.plan_settings.specs.declared.config.Gap.TheVariants.{Keep, Drop}

-- document 01's domain, 0 scores, 1 decibels: whether the values are decibels
abbrev pub domain_of : Bool → Domain
domain_of true = Decibels
domain_of false = Scores

-- document 01's gap, 0 keep, 1 drop: whether gaps are dropped
abbrev pub gap_of : Bool → Gap
gap_of true = Drop
gap_of false = Keep

-- document 01's count, else by length: whether a count is asked for, and the count
abbrev pub mode_of : Bool → ℕ → Mode
mode_of by_count count = cond by_count (ByCount count) ByLength
