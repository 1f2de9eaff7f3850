-- `stretch::stretch_at`: a law for each place of the boundary.
use Rattle.std.proofs.Common.{rules}
use mathlib.Core.Path.{◌∙◌}
use Rattle.candidate_costs.specs.StretchLaws.{stretch_first, stretch_inner, stretch_last}
use Rattle.candidate_costs.proofs.stretch.stretch_at.Goals as goal

pub returns-then-k-eq0 : goal.returns-then-k-eq0
returns-then-k-eq0 c = rw c.if-k-eq0.true (stretch_first c.args.runs.now c.requires.runs_nonzero)

pub returns-then-k-runs : goal.returns-then-k-runs
returns-then-k-runs c = stretch_last c.args.runs.now c.args.k (search rules) c.if-k-runs.true

pub returns : goal.returns
returns c = rw (← stretch_inner c.args.runs.now c.args.k (search rules) (search rules)) (search rules)
