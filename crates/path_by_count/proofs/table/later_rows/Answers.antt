-- `table::later_rows` fills one row more in each turn: row k + 1 stands in its own part of the parent list, behind the k rows that stay as they are. The list
-- has room for each part, from the second on.
use Rattle.path_by_count.specs.FilledLaws.{row_within, rows_more}
use Rattle.std.proofs.Common.{arith}
use mathlib.Core.Path.{◌≡◌, refl, ◌∙◌}
use Prim.Native.Nat.{◌+◌, ◌*◌, ◌≤◌}
use lib.ListN.{length, length-take, length-drop}
use Rattle.path_by_count.proofs.table.later_rows.Goals as goal

pub overflow_mul-start : goal.overflow_mul-start
overflow_mul-start c =
    omega (arith, row_within c.loop-k.k c.args.pieces (length c.args.ends.now.left.now) (omega arith), row_within 1 c.args.pieces (length c.args.ends.now.left.now) (omega arith), c.requires.left_in_bounds, c.loop-k.invariant.2, c.well_formed)

pub overflow_add-start : goal.overflow_add-start
overflow_add-start c =
    omega (arith, row_within c.loop-k.k c.args.pieces (length c.args.ends.now.left.now) (omega arith), row_within 1 c.args.pieces (length c.args.ends.now.left.now) (omega arith), c.requires.left_in_bounds, c.loop-k.invariant.2, c.well_formed)

pub offset_bounds-parent-start : goal.offset_bounds-parent-start
offset_bounds-parent-start c =
    omega (arith, row_within c.loop-k.k c.args.pieces (length c.args.ends.now.left.now) (omega arith), row_within 1 c.args.pieces (length c.args.ends.now.left.now) (omega arith), c.requires.left_in_bounds, c.loop-k.invariant.2, c.well_formed)

pub slice_bounds-next_row-count : goal.slice_bounds-next_row-count
slice_bounds-next_row-count c =
    omega (arith, row_within c.loop-k.k c.args.pieces (length c.args.ends.now.left.now) (omega arith), row_within 1 c.args.pieces (length c.args.ends.now.left.now) (omega arith), c.requires.left_in_bounds, c.loop-k.invariant.2, c.loop-k.invariant.5)

pub next_row-requires : goal.next_row-requires
next_row-requires c = let filled = c.loop-k.invariant.6 in
    let within = row_within c.loop-k.k c.args.pieces (length c.args.ends.now.left.now) (omega arith) in
    record { laid = filled.laid; score_row = filled.is_row; k_nonzero = (omega arith, omega (arith, c.requires.pieces_nonzero)); row_len = simp (length-take, length-drop) (omega (arith, within, row_within 1 c.args.pieces (length c.args.ends.now.left.now) (omega arith), c.requires.left_in_bounds, c.loop-k.invariant.2, c.loop-k.invariant.5)) }

pub loop-k-preserved : goal.loop-k-preserved
loop-k-preserved c =
    let start = c.loop-k.k * length c.args.ends.now.left.now in
    let within = row_within c.loop-k.k c.args.pieces (length c.args.ends.now.left.now) (omega arith) in
    let room : start + length c.args.ends.now.left.now ≤ length c.loop-k.parent = omega (arith, within, c.requires.left_in_bounds, c.loop-k.invariant.2, c.loop-k.invariant.5) in (
      omega arith,
      omega arith,
      c.loop-k.invariant.2,
      c.over-1.given ∙ c.loop-k.invariant.3,
      c.cost-1.given ∙ c.loop-k.invariant.4,
      c.parent-1.given.1 ∙ c.loop-k.invariant.5,
      rows_more c.loop-k.k start c.loop-k.invariant.0 refl c.loop-k.invariant.6 (c.parent-1.given.0 ∙ simp (length-take, length-drop) (omega (arith, room))) room c.next_row.ensures,
    )

pub returns : goal.returns
returns c = let e : c.loop-k.k ≡ c.args.pieces = omega (arith, c.loop-k.invariant.1) in rw e at c.loop-k.invariant.6
