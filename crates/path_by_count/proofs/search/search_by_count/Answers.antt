-- `search::search_by_count` walks back from the score found, along parents that are the table's; one candidate alone is a path of no piece.
use Rattle.path_by_count.specs.CountedLaws.{sought_solved, none_solved}
use Rattle.std.proofs.Common.{arith}
use Rattle.path_by_count.proofs.search.search_by_count.Goals as goal

pub returns-then-pieces-eq0 : goal.returns-then-pieces-eq0
returns-then-pieces-eq0 c =
    let e = c.min-pieces.ensures in
    none_solved c.min-pieces.result e c.if-pieces-eq0.true (omega (arith, e, c.if-pieces-eq0.true, c.requires.count_nonzero)) (omega (arith, c.requires.count_in_bounds))

pub best_score-score-requires : goal.best_score-score-requires
best_score-score-requires c = let e = c.min-pieces.ensures in
    record { tree_room = c.requires.tree_room; pieces_nonzero = (omega (arith, c.if-pieces-eq0.false), omega (arith, e, c.requires.tree_room.domain.candidates.some)); left_in_bounds = rw e c.requires.left_in_bounds }

pub returns : goal.returns
returns c = sought_solved c.min-pieces.result c.min-pieces.ensures c.best_score-score.ensures c.walk.ensures
