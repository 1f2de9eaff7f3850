-- `next::next_cut`: one law for each end.
use Rattle.completion_reach.specs.NextLaws.{next_whole, next_stuck, next_to}
use Rattle.completion_reach.proofs.next.next_cut.Goals as goal

pub returns-then-k-x : goal.returns-then-k-x
returns-then-k-x c =
    next_whole c.args.x.grid _ c.args.limit c.args.at c.reachable-k.result c.reachable-k.ensures c.if-k-x.true

pub returns-then-k-at : goal.returns-then-k-at
returns-then-k-at c =
    next_stuck c.args.x.grid _ c.args.limit c.args.at c.reachable-k.result c.reachable-k.ensures c.if-k-x.false c.if-k-at.true

pub returns : goal.returns
returns c =
    next_to c.args.x.grid _ c.args.limit c.args.at c.reachable-k.result c.reachable-k.ensures c.if-k-x.false c.if-k-at.false
    c.place_at.result c.place_at.ensures
