-- `by_length::path_by_length`: the table's part of the list is back with the parents in it when the walk back starts behind it.
use Rattle.plan_path.specs.ByLengthLaws.{length_way, length-held}
use Rattle.plan_path.proofs.by_length.path_by_length.Goals as goal

pub backtrack_within-requires : goal.backtrack_within-requires
backtrack_within-requires c =
    rw c.behind_table.ensures (length_way c.args.search c.args.at c.args.work.now c.requires.table_room c.requires.search_le_at.0 c.requires.search_le_at.1 c.search_by_length-solved.ensures)

pub returns : goal.returns
returns c =
    length-held c.args.search c.args.at c.args.work.now c.requires.table_room c.requires.search_le_at.0 c.requires.search_le_at.1 c.search_by_length-solved.ensures _ (rw c.behind_table.ensures at c.backtrack_within.ensures)
