-- `row::first_row` writes a score for each candidate and clears the leaves beyond them; what stands behind the tree is not touched.
use Rattle.path_by_count_rows.specs.RowsLaws.{first_done}
use Rattle.path_by_count_rows.proofs.row.first_row.Goals as goal

pub returns : goal.returns
returns c = first_done c.requires.laid c.write_first.ensures c.pad_leaves.auto.tree_over c.pad_leaves.auto.tree_cost c.pad_leaves.ensures
