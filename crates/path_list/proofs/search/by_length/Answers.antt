-- `search::by_length` tests the room once the table says how many candidates the path has, and writes nothing where there is none.
use Rattle.path_rules.specs.Paths.{last_candidate}
use Rattle.path_by_length.specs.Table.{best_path, best_score}
use Rattle.path_by_length.specs.Solved.{cuts_in}
use Rattle.path_by_length.proofs.SolvedLaws.{part_behind, filled_parents, filled-path}
use Rattle.path_list.specs.SearchLaws.{handed-short, handed-found}
use Rattle.std.proofs.Common.{arith}
use mathlib.Core.Path.{sym, ap, ◌∙◌}
use lib.ListN.{length}
use Rattle.path_list.proofs.search.by_length.Goals as goal

pub returns-then-path-solved : goal.returns-then-path-solved
returns-then-path-solved c =
    let solved = c.search_by_length-solved.ensures in
    let left = c.args.ends.now.left.now in
    let right = c.args.ends.now.right.now in
    let cut = cuts_in (length left) c.args.cost.now in
    handed-short (best_path c.args.lengths left right cut) (best_score c.args.lengths left right cut (last_candidate left)) c.args.path.now
    (omega (arith, solved.count, c.if-path-solved.true))

pub backtrack-requires : goal.backtrack-requires
backtrack-requires c = let solved = c.search_by_length-solved.ensures in
    rw (part_behind (length c.args.ends.now.left.now) c.behind_table.ensures c.end_by_length.ensures)
    (record { parents = filled_parents c.requires solved.filled; len_value = solved.count ∙ sym (ap length (filled-path c.requires solved.filled)); len_in_bounds = omega (arith, c.if-path-solved.false) })

pub returns : goal.returns
returns c =
    let solved = c.search_by_length-solved.ensures in
    let left = c.args.ends.now.left.now in
    let right = c.args.ends.now.right.now in
    let cut = cuts_in (length left) c.args.cost.now in
    handed-found (best_path c.args.lengths left right cut) (best_score c.args.lengths left right cut (last_candidate left)) c.args.path.now _ _
    (omega (arith, solved.count, c.if-path-solved.false)) solved.score solved.count
    (rw (part_behind (length left) c.behind_table.ensures c.end_by_length.ensures, filled-path c.requires solved.filled) at c.backtrack.ensures)
