-- `row::write_first` writes each candidate's score and parent once, from the left; a score is read from the lists lent and not from what is written.
use Rattle.path_by_count_rows.specs.RowsLaws.{tree_size, behind_part, first_start_lem, first_more, first-cuts}
use Rattle.std.proofs.Common.{rules}
use Rattle.std.proofs.Common.{arith}
use mathlib.Core.Path.{◌≡◌, refl}
use lib.ListN.{length, length-set}
use Rattle.path_by_count_rows.proofs.row.write_first.Goals as goal

pub loop-j-init : goal.loop-j-init
loop-j-init c = (omega arith, refl, refl, refl, c.requires.row_len, first_start_lem c.args.row.now)

pub first_score-score-requires : goal.first_score-score-requires
first_score-score-requires c = record { searchable = rw (behind_part (length c.args.ends.now.left.now) c.behind_tree-from.ensures c.end_by_count-to.ensures c.loop-j.cost, first-cuts c.requires.laid c.loop-j.invariant.5) c.requires.laid.domain; j_in_bounds = search rules }

pub loop-j-preserved : goal.loop-j-preserved
loop-j-preserved c =
    let laid = c.requires.laid in (
      omega arith,
      c.loop-j.invariant.1,
      simp length-set c.loop-j.invariant.2,
      simp length-set c.loop-j.invariant.3,
      simp length-set c.loop-j.invariant.4,
      first_more c.first_score-score.result (omega (arith, c.loop-j.invariant.1)) (omega (arith, laid.overs, tree_size laid, laid.tree.enough, c.loop-j.invariant.1, c.loop-j.invariant.2))
          (omega (arith, laid.costs, tree_size laid, laid.tree.enough, c.loop-j.invariant.1, c.loop-j.invariant.3)) (omega (arith, c.loop-j.invariant.1, c.loop-j.invariant.4))
          (rw (behind_part (length c.args.ends.now.left.now) c.behind_tree-from.ensures c.end_by_count-to.ensures c.loop-j.cost, first-cuts laid c.loop-j.invariant.5) at c.first_score-score.ensures) c.loop-j.invariant.5,
    )

pub returns : goal.returns
returns c = let e : c.loop-j.j ≡ length c.args.ends.now.left.now = omega (arith, c.loop-j.invariant.1) in rw e at c.loop-j.invariant.5
