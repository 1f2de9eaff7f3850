-- `row::next_row` links the tree over the row before, whose scores the new row is then written from; the leaves of the tree are the scores.
use Rattle.path_by_count_rows.specs.RowsLaws.{planted, next_done}
use Rattle.path_by_count_rows.proofs.row.next_row.Goals as goal

pub write_row-requires : goal.write_row-requires
write_row-requires c = record { planted = planted c.requires.laid c.requires.score_row c.link_nodes.auto.tree_over c.link_nodes.auto.tree_cost c.link_nodes.ensures; k_nonzero = c.requires.k_nonzero; row_len = c.requires.row_len }

pub returns : goal.returns
returns c =
    let linked = c.link_nodes.ensures in
    let overs = c.link_nodes.auto.tree_over in
    let costs = c.link_nodes.auto.tree_cost in
    next_done (planted c.requires.laid c.requires.score_row overs costs linked) c.requires.k_nonzero.0 c.requires.laid overs costs linked c.write_row.ensures
