-- `row::predecessor` searches the candidates from which an allowed piece starts and which one piece fewer reaches: a range, from the later of the two firsts.
use Rattle.path_by_count_rows.specs.RowsLaws.{starts_of, start_below, predecessor_by}
use Rattle.std.proofs.Common.{arith}
use mathlib.Core.Path.{◌≡◌}
use Prim.Native.Nat.{◌+◌}
use lib.ListN.{get_or}
use Rattle.path_by_count_rows.specs.First.{first_start}
use Rattle.path_by_count_rows.proofs.row.predecessor.Goals as goal

pub overflow_cast-first : goal.overflow_cast-first
overflow_cast-first c = omega (arith, c.type_inv.over (c.args.firsts + c.args.j))

pub least_predecessor-requires : goal.least_predecessor-requires
least_predecessor-requires c = let ready = c.requires.row_ready in
    let e : get_or c.args.over.now (c.args.firsts + c.args.j) 0 ≡ first_start c.args.lengths.limit c.args.ends.now.left.now c.args.ends.now.right.now c.args.j =
    rw c.requires.firsts_value (ready.laid.firsts c.args.j ready.inside) in
    let below = start_below c.args.lengths c.args.ends.now.left.now c.args.ends.now.right.now c.args.k c.args.j ready.some ready.reached in
    record {
      starts = starts_of ready;
      covers = ready.covers;
      from_lt_to = omega (arith, c.max-from.ensures, e, below);
      to_le_leaves = omega (arith, ready.laid.tree.enough, ready.inside);
    }

pub returns : goal.returns
returns c =
    let ready = c.requires.row_ready in
    let e : get_or c.args.over.now (c.args.firsts + c.args.j) 0 ≡ first_start c.args.lengths.limit c.args.ends.now.left.now c.args.ends.now.right.now c.args.j =
    rw c.requires.firsts_value (ready.laid.firsts c.args.j ready.inside) in
    predecessor_by c.args.lengths c.args.ends.now.left.now c.args.ends.now.right.now c.args.leaves c.args.over.now c.args.cost.now
    c.args.k c.args.j c.max-from.result c.least_predecessor.result
    ready.laid.domain.candidates ready.some ready.reached ready.inside (rw e at c.max-from.ensures) c.least_predecessor.ensures
