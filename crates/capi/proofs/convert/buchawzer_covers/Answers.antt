-- The test of the limits, then the grid's own.
use mathlib.Core.Path.{sym, ◌∙◌}
use Rattle.capi.specs.GridLaws.{grid_args_lem}
use Rattle.capi.proofs.convert.buchawzer_covers.Goals as goal

pub returns-else-grid_args : goal.returns-else-grid_args
returns-else-grid_args c = rw (← c.grid_args.ensures, c.if-grid_args.false)

pub covered-requires : goal.covered-requires
covered-requires c = grid_args_lem _ (sym c.grid_args.ensures ∙ c.if-grid_args.true)

pub returns-then-grid_args : goal.returns-then-grid_args
returns-then-grid_args c = rw (← c.grid_args.ensures, c.if-grid_args.true) c.covered.ensures
