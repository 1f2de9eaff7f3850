-- `row::first_score` adds one piece, and then the cut, to no score; to the first candidate there is no piece.
use Rattle.base_laws.specs.Nonneg.{nought_is}
use lib.Ieee.{binary64}
use Rattle.path_pieces.specs.Pieces.{piece_length}
use Rattle.path_pieces.specs.DomainLaws.{ends_rise, left_bounded}
use Rattle.path_by_count_rows.specs.RowsLaws.{first-none, first_one}
use Rattle.std.proofs.Common.{arith}
use mathlib.Core.Path.{◌∙◌}
use Rattle.path_by_count_rows.proofs.row.first_score.Goals as goal

pub returns-then-j-eq0 : goal.returns-then-j-eq0
returns-then-j-eq0 c = rw (nought_is binary64) (first-none c.args.lengths c.args.ends.now.left.now c.args.ends.now.right.now c.args.cut.now c.args.j c.if-j-eq0.true)

pub overflow_sub-ends : goal.overflow_sub-ends
overflow_sub-ends c = ends_rise c.requires.searchable.candidates 0 c.args.j (omega (arith, c.if-j-eq0.false)) c.requires.j_in_bounds

pub with_piece-score-requires : goal.with_piece-score-requires
with_piece-score-requires c = record { over_le_max_index = omega arith; len_le_max_len = omega (arith, left_bounded c.requires.searchable.candidates c.args.j c.requires.j_in_bounds) }

pub returns : goal.returns
unfolding piece_length
returns c =
    rw (← nought_is binary64, ← c.with_piece-score.ensures) c.with_cut_at.ensures
    ∙ first_one c.args.lengths c.args.ends.now.left.now c.args.ends.now.right.now c.args.cut.now c.args.j (omega (arith, c.if-j-eq0.false))
