-- `halves::outlook` gives the bound where the range meets the query, as the definition does.
use Rattle.path_by_count_search.proofs.VisitLaws.{ranged_at, outlook_none, outlook_some}
use mathlib.Core.Path.{refl}
use Rattle.path_by_count_search.proofs.halves.outlook.Goals as goal

pub returns-then-stop-start : goal.returns-then-stop-start
returns-then-stop-start c =
    outlook_none c.args.query c.args.right.now c.args.over.now c.args.cost.now c.args.node c.args.lo c.args.hi
    c.max-start.result c.min-stop.result _ c.max-start.ensures c.min-stop.ensures c.if-stop-start.true refl

pub bound-score-requires : goal.bound-score-requires
bound-score-requires c =
    ranged_at {q = c.args.query} _ _ c.requires c.max-start.ensures c.min-stop.ensures c.if-stop-start.false

pub returns : goal.returns
returns c =
    outlook_some c.args.query c.args.right.now c.args.over.now c.args.cost.now c.args.node c.args.lo c.args.hi
    c.max-start.result c.min-stop.result c.bound-score.result c.max-start.ensures c.min-stop.ensures c.if-stop-start.false
    (rw c.lengths.ensures at c.bound-score.ensures)
