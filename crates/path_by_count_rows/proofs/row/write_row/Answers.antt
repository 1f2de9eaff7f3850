-- `row::write_row` goes from the last candidate down. A score depends on earlier candidates alone, which the row before still holds, and the tree still bounds them.
use Rattle.path_by_count_rows.specs.RowsLaws.{tree_size, behind_part, behind-length, next_start, next_more, predecessor_high, written_ready, written-cuts}
use Rattle.std.proofs.Common.{arith}
use mathlib.Core.Path.{◌≡◌, refl, sym, ◌∙◌}
use Prim.Native.Nat.{◌-◌}
use lib.ListN.{length, length-set}
use Rattle.path_by_count_rows.proofs.row.write_row.Goals as goal

pub loop-j-init : goal.loop-j-init
loop-j-init c =
    (c.requires.k_nonzero.1, omega arith, refl, refl, refl, c.requires.row_len, next_start c.args.row.now)

pub predecessor-best-requires : goal.predecessor-best-requires
predecessor-best-requires c = record { row_ready = written_ready c.requires.planted c.requires.k_nonzero.0 c.loop-j.invariant.0 c.loop-j.invariant.6 (c.loop-j.j - 1) (omega arith) (omega arith) (omega (arith, c.loop-j.invariant.2)); firsts_value = c.behind_tree-from.ensures }

pub slice_bounds-with_cut_at-end : goal.slice_bounds-with_cut_at-end
slice_bounds-with_cut_at-end c =
    let laid = c.requires.planted.laid in
    omega (arith, laid.costs, c.loop-j.invariant.4, c.behind_tree-from.ensures, c.end_by_count-to.ensures)

pub with_cut_at-score-requires : goal.with_cut_at-score-requires
with_cut_at-score-requires c =
    let laid = c.requires.planted.laid in
    let n = length c.args.ends.now.left.now in
    let e = behind_part n c.behind_tree-from.ensures c.end_by_count-to.ensures c.loop-j.cost in
    rw (e, behind-length n c.loop-j.cost (omega (arith, laid.costs, c.loop-j.invariant.4))) (omega (arith, c.loop-j.invariant.1, c.loop-j.invariant.2))

pub overflow_add-over : goal.overflow_add-over
overflow_add-over c = let laid = c.requires.planted.laid in omega (arith, laid.overs, tree_size laid, laid.tree.enough, laid.domain.candidates.few, c.loop-j.invariant.2, c.loop-j.invariant.1)

pub offset_bounds-over-leaves : goal.offset_bounds-over-leaves
offset_bounds-over-leaves c = let laid = c.requires.planted.laid in omega (arith, laid.overs, tree_size laid, laid.tree.enough, laid.domain.candidates.few, c.loop-j.invariant.2, c.loop-j.invariant.1)

pub bounds-over-leaves : goal.bounds-over-leaves
bounds-over-leaves c = let laid = c.requires.planted.laid in omega (arith, laid.overs, tree_size laid, laid.tree.enough, c.loop-j.invariant.2, c.loop-j.invariant.3)

pub overflow_add-cost : goal.overflow_add-cost
overflow_add-cost c = let laid = c.requires.planted.laid in omega (arith, laid.overs, tree_size laid, laid.tree.enough, laid.domain.candidates.few, c.loop-j.invariant.2, c.loop-j.invariant.1)

pub offset_bounds-cost-leaves : goal.offset_bounds-cost-leaves
offset_bounds-cost-leaves c = let laid = c.requires.planted.laid in omega (arith, laid.overs, tree_size laid, laid.tree.enough, laid.domain.candidates.few, c.loop-j.invariant.2, c.loop-j.invariant.1)

pub bounds-cost-leaves : goal.bounds-cost-leaves
bounds-cost-leaves c = let laid = c.requires.planted.laid in omega (arith, laid.costs, tree_size laid, laid.tree.enough, c.loop-j.invariant.2, c.loop-j.invariant.4)

pub overflow_cast-row : goal.overflow_cast-row
overflow_cast-row c =
    let ready = written_ready c.requires.planted c.requires.k_nonzero.0 c.loop-j.invariant.0 c.loop-j.invariant.6 (c.loop-j.j - 1) (omega arith) (omega arith) (omega (arith, c.loop-j.invariant.2)) in
    omega (arith, predecessor_high c.predecessor-best.result ready c.predecessor-best.ensures, c.requires.planted.laid.domain.candidates.few, c.loop-j.invariant.1, c.loop-j.invariant.2)

pub bounds-row-j : goal.bounds-row-j
bounds-row-j c = omega (arith, c.loop-j.invariant.2, c.loop-j.invariant.5)

pub loop-j-smaller : goal.loop-j-smaller
loop-j-smaller c = omega arith

pub loop-j-preserved : goal.loop-j-preserved
loop-j-preserved c =
    let laid = c.requires.planted.laid in (
      omega arith,
      omega arith,
      c.loop-j.invariant.2,
      simp length-set c.loop-j.invariant.3,
      simp length-set c.loop-j.invariant.4,
      simp length-set c.loop-j.invariant.5,
      next_more c.requires.planted c.requires.k_nonzero.0 c.loop-j.invariant.0 c.loop-j.invariant.6 (c.loop-j.j - 1) c.predecessor-best.result c.with_cut_at-score.result
          (omega arith) (omega arith) (omega (arith, c.loop-j.invariant.2)) (omega (arith, laid.overs, tree_size laid, laid.tree.enough, c.loop-j.invariant.2, c.loop-j.invariant.3))
          (omega (arith, laid.costs, tree_size laid, laid.tree.enough, c.loop-j.invariant.2, c.loop-j.invariant.4)) (omega (arith, c.loop-j.invariant.2, c.loop-j.invariant.5))
          c.predecessor-best.ensures
          (rw (behind_part (length c.args.ends.now.left.now) c.behind_tree-from.ensures c.end_by_count-to.ensures c.loop-j.cost, written-cuts c.requires.planted c.requires.k_nonzero.0 c.loop-j.invariant.0 c.loop-j.invariant.6) at c.with_cut_at-score.ensures),
    )

pub shape_of-over : goal.shape_of-over
shape_of-over c = c.loop-j.invariant.3

pub shape_of-cost : goal.shape_of-cost
shape_of-cost c = c.loop-j.invariant.4

pub shape_of-row : goal.shape_of-row
shape_of-row c = c.loop-j.invariant.5 ∙ sym c.requires.row_len

pub returns : goal.returns
returns c = let e : c.loop-j.j ≡ c.args.k = omega (arith, c.loop-j.invariant.0) in rw e at c.loop-j.invariant.6
