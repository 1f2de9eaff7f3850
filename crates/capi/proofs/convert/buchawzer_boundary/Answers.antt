-- The conversion itself where the numbers are within their limits, and the marker elsewhere.
use mathlib.Core.Path.{sym, ◌∙◌}
use Rattle.capi.specs.GridLaws.{grid_args_lem}
use Rattle.capi.proofs.convert.buchawzer_boundary.Goals as goal

pub returns-else-grid_args : goal.returns-else-grid_args
returns-else-grid_args c = rw (← c.grid_args.ensures, c.if-grid_args.false)

pub position-requires : goal.position-requires
position-requires c = grid_args_lem _ (sym c.grid_args.ensures ∙ c.if-grid_args.true)

pub returns-then-grid_args : goal.returns-then-grid_args
returns-then-grid_args c = rw (← c.grid_args.ensures, c.if-grid_args.true) c.position.ensures
