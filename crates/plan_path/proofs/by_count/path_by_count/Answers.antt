-- `by_count::path_by_count` walks back through the list of parents, and writes to the rest of the work list once the search's part is back in it.
use Rattle.std.proofs.Common.{arith}
use lib.ListN.{length-drop}
use Rattle.path_by_count.specs.CountedLaws.{sought_solved, none_solved}
use Rattle.plan_path.specs.ByCountLaws.{set-held, rest_long, rest-held}
use Rattle.plan_path.proofs.by_count.path_by_count.Goals as goal

pub returns-then-pieces-eq0 : goal.returns-then-pieces-eq0
returns-then-pieces-eq0 c =
    let e = c.min-pieces.ensures in
    set-held c.args.search c.args.at c.args.work.now c.requires.search_le_at.0
    (none_solved c.min-pieces.result e c.if-pieces-eq0.true (omega (arith, e, c.if-pieces-eq0.true, c.requires.count_nonzero.0))
    (omega (arith, c.requires.tree_room.domain.candidates.some, c.requires.search_le_at.1, length-drop c.args.at c.args.work.now)))

pub best_score-score-requires : goal.best_score-score-requires
best_score-score-requires c = let e = c.min-pieces.ensures in
    record { tree_room = c.requires.tree_room; pieces_nonzero = (omega (arith, c.if-pieces-eq0.false), omega (arith, e, c.requires.tree_room.domain.candidates.some)); left_in_bounds = rw e c.requires.count_nonzero.1 }

pub walk-requires : goal.walk-requires
walk-requires c = record {
  back = c.best_score-score.ensures.back;
  pieces_in_bounds = omega (
    arith,
    c.requires.search_le_at,
    c.requires.tree_room.domain.candidates.some,
    c.min-pieces.ensures,
    rest_long c.args.search c.args.at c.args.work.now c.best_score-score.new.over c.requires.search_le_at.0
        (omega (arith, c.requires.search_le_at.1)) c.work-1.given.1,
  );
}

pub returns : goal.returns
returns c =
    rest-held c.args.search c.args.at c.args.work.now c.best_score-score.new.over c.requires.search_le_at.0
    (omega (arith, c.requires.search_le_at.1)) c.work-1.given.1 _ c.work-2-1.given.1
    (sought_solved c.min-pieces.result c.min-pieces.ensures c.best_score-score.ensures c.walk.ensures)
