-- `table::fill_rows` writes the first row to the front of the parent list, so the rows up to 1 are filled, and the others follow it.
use lib.Seq.{length-take-le}
use native.Mathlib.Nat.{zero-mul}
use Rattle.path_by_count.specs.FilledLaws.{row_within, rows_first}
use Rattle.std.proofs.Common.{arith}
use mathlib.Core.Path.{sym, ◌∙◌}
use Prim.Native.Nat.{◌≤◌}
use lib.ListN.{length}
use Rattle.path_by_count.proofs.table.fill_rows.Goals as goal

pub slice_bounds-first_row-end : goal.slice_bounds-first_row-end
slice_bounds-first_row-end c =
    let n = length c.args.ends.now.left.now in
    omega (arith, zero-mul n, row_within 0 c.args.pieces n c.requires.pieces_nonzero.0, c.requires.left_in_bounds)

pub slice_bounds-first_row-end-2 : goal.slice_bounds-first_row-end-2
slice_bounds-first_row-end-2 c =
    let n = length c.args.ends.now.left.now in
    sym (length-take-le n c.args.parent.now (omega (arith, zero-mul n, row_within 0 c.args.pieces n c.requires.pieces_nonzero.0, c.requires.left_in_bounds)))

pub first_row-requires : goal.first_row-requires
first_row-requires c = let n = length c.args.ends.now.left.now in
    record { laid = c.requires.laid; row_len = length-take-le n c.args.parent.now (omega (arith, zero-mul n, row_within 0 c.args.pieces n c.requires.pieces_nonzero.0, c.requires.left_in_bounds)) }

pub later_rows-requires : goal.later_rows-requires
later_rows-requires c = let first = c.first_row.ensures in
    let n = length c.args.ends.now.left.now in
    let room : n ≤ length c.args.parent.now = omega (arith, zero-mul n, row_within 0 c.args.pieces n c.requires.pieces_nonzero.0, c.requires.left_in_bounds) in
    record { rows_filled = rw first.cuts (rows_first c.args.parent.now c.first_row.new.row (c.parent-1.given.0 ∙ length-take-le n c.args.parent.now room) first); pieces_nonzero = c.requires.pieces_nonzero; left_in_bounds = omega (arith, c.parent-1.given.1, c.requires.left_in_bounds) }

pub returns : goal.returns
returns c = rw c.first_row.ensures.cuts at c.later_rows.ensures
