-- `search::search_by_length`: the table's score at the last candidate is the best, and its parents lead back along the best path.
use mathlib.Core.Path.{ap, ◌∙◌}
use lib.ListN.{length}
use Rattle.path_by_length.proofs.SolvedLaws.{part_behind, filled-score, filled_parents, filled-path}
use Rattle.path_by_length.proofs.search.search_by_length.Goals as goal

pub path_len-len-requires : goal.path_len-len-requires
path_len-len-requires c = rw (part_behind (length c.args.ends.now.left.now) c.behind_table.ensures c.end_by_length.ensures) (filled_parents c.requires c.fill_table.ensures)

pub returns : goal.returns
returns c =
    let table = c.fill_table.ensures in
    record {
      filled = table;
      score = filled-score c.requires table;
      count = (rw (part_behind (length c.args.ends.now.left.now) c.behind_table.ensures c.end_by_length.ensures) at c.path_len-len.ensures) ∙ ap length (filled-path c.requires table);
    }
