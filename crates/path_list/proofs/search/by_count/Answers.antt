-- `search::by_count` knows the path's length before the search, so the room is tested first.
use Rattle.path_by_count.specs.Table.{best_path_by_count, best_score_by_count}
use Rattle.path_by_count.specs.Theorems.{count_allowed}
use Rattle.path_by_count_rows.specs.Rows.{behind}
use Rattle.path_list.specs.SearchLaws.{handed-short, handed-found}
use Rattle.std.proofs.Common.{arith}
use lib.ListN.{length}
use Rattle.path_list.proofs.search.by_count.Goals as goal

pub returns-then-path-pieces : goal.returns-then-path-pieces
returns-then-path-pieces c =
    let l = c.args.lengths in
    let left = c.args.ends.now.left.now in
    let right = c.args.ends.now.right.now in
    let cut = behind (length left) c.args.cost.now in
    let count = c.args.count in
    let len = (count_allowed c.requires.tree_room.domain count c.requires.count_nonzero).1 in
    handed-short (best_path_by_count l left right cut count) (best_score_by_count l left right cut count) c.args.path.now (omega (arith, len, c.min-pieces.ensures, c.if-path-pieces.true))

pub search_by_count-requires : goal.search_by_count-requires
search_by_count-requires c = record { tree_room = c.requires.tree_room; count_nonzero = c.requires.count_nonzero; left_in_bounds = c.requires.left_in_bounds; count_in_bounds = omega (arith, c.min-pieces.ensures, c.if-path-pieces.false) }

pub returns : goal.returns
returns c =
    let l = c.args.lengths in
    let left = c.args.ends.now.left.now in
    let right = c.args.ends.now.right.now in
    let cut = behind (length left) c.args.cost.now in
    let count = c.args.count in
    let len = (count_allowed c.requires.tree_room.domain count c.requires.count_nonzero).1 in
    let solved = c.search_by_count.ensures in
    handed-found (best_path_by_count l left right cut count) (best_score_by_count l left right cut count) c.args.path.now _ c.search_by_count.result
    (omega (arith, len, c.min-pieces.ensures, c.if-path-pieces.false)) solved.score solved.count_is solved.written
