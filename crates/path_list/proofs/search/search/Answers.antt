-- `search::search` puts the lent costs where the search of its mode reads them; the part that was put is the lent list.
use Rattle.path_pieces.specs.declared.mode.Mode.{Mode}
use Rattle.path_pieces.specs.declared.mode.Mode.TheVariants.{ByLength}
use Rattle.path_list.specs.SearchLaws.{size_fits, length-cuts, length-room, count_cuts, count_room, sought-length, sought-short, sought_count}
use Rattle.std.proofs.Common.{arith}
use mathlib.Core.Path.{◌≡◌, ◌∙◌}
use lib.ListN.{length}
use Rattle.path_list.proofs.search.search.Goals as goal

pub by_length-requires : goal.by_length-requires
by_length-requires c = rw c.copy_f64.ensures (length-room c.requires c.behind_table.ensures c.end_by_length.ensures)

pub overflow_mul-pieces : goal.overflow_mul-pieces
overflow_mul-pieces c = omega (arith, size_fits c.requires c.min-pieces.result (omega (arith, c.min-pieces.ensures)))

pub returns-then-parent-pieces : goal.returns-then-parent-pieces
returns-then-parent-pieces c =
    let e = c.in-ByCount.is in
    rw e (sought-short c.args.lengths c.args.ends.now.left.now c.args.ends.now.right.now c.args.cost.now c.in-ByCount.count (length c.args.parent.now) c.args.path.now
    (rw c.min-pieces.ensures at c.if-parent-pieces.true))

pub by_count-requires : goal.by_count-requires
by_count-requires c = record { tree_room = rw c.copy_f64-in-ByCount.ensures (count_room c.requires c.behind_tree.ensures c.end_by_count.ensures); count_nonzero = c.requires.counted c.in-ByCount.count c.in-ByCount.is; left_in_bounds = rw c.min-pieces.ensures at c.if-parent-pieces.false }

pub returns-in-ByLength : goal.returns-in-ByLength
returns-in-ByLength c =
    let e : ◌≡◌ {A = Mode} c.args.mode ByLength = c.in-ByLength.is in
    rw e ((rw (c.copy_f64.ensures, length-cuts c.requires c.behind_table.ensures c.end_by_length.ensures) at c.by_length.ensures)
    ∙ sought-length c.args.lengths c.args.ends.now.left.now c.args.ends.now.right.now c.args.cost.now (length c.args.parent.now) c.args.path.now)

pub returns-else-parent-pieces : goal.returns-else-parent-pieces
returns-else-parent-pieces c =
    let e = c.in-ByCount.is in
    rw e ((rw (c.copy_f64-in-ByCount.ensures, count_cuts c.requires c.behind_tree.ensures c.end_by_count.ensures) at c.by_count.ensures)
    ∙ sought_count c.args.lengths c.args.ends.now.left.now c.args.ends.now.right.now c.args.cost.now c.in-ByCount.count (length c.args.parent.now) c.args.path.now
    (rw c.min-pieces.ensures at c.if-parent-pieces.false))
