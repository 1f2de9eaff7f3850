-- `flags::is_clear` is `is_clear`.
use mathlib.Core.Path.{refl}
use Rattle.grid.specs.Words.{is_clear}
use Rattle.grid.proofs.flags.is_clear.Goals as goal

pub returns : goal.returns
unfolding is_clear
returns c = refl
