-- `search::best_score` writes the first starts behind the tree, which is then laid for the rows; the last row's score at the last candidate is the best path's.
use Rattle.std.proofs.Common.{arith}
use lib.ListN.{length}
use Rattle.path_by_count_rows.specs.Rows.{behind}
use Rattle.path_by_count.specs.CountedLaws.{room_laid, rows_sought}
use Rattle.path_by_count.proofs.search.best_score.Goals as goal

pub fill_rows-requires : goal.fill_rows-requires
fill_rows-requires c = record { laid = room_laid c.first_starts.new.first c.requires.tree_room c.leaves_for-leaves.ensures c.behind_tree.ensures c.end_by_count.ensures c.first_starts.ensures c.over-1.given.1; pieces_nonzero = c.requires.pieces_nonzero; left_in_bounds = c.requires.left_in_bounds }

pub returns : goal.returns
returns c =
    rows_sought {cut = behind (length c.args.ends.now.left.now) c.args.cost.now} c.fill_rows.ensures c.requires.pieces_nonzero.1 (omega (arith, c.parent-1.given, c.requires.left_in_bounds))
