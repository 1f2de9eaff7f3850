-- `backward::long_pieces` walks back while the piece is within the limit: what it holds is the lowest least of the candidates passed. It stops where a
-- piece is too long, since pieces that start further back are no shorter.
use Rattle.std.proofs.Common.{arith}
use Prim.Native.Nat.{◌-◌}
use native.Mathlib.Nat.{le_refl}
use Rattle.path_pieces.specs.Pieces.{piece_length}
use Rattle.path_pieces.specs.DomainLaws.{ends_rise, piece_bounded}
use Rattle.path_pieces.specs.PredecessorLaws.{within_yes}
use Rattle.path_by_length_search.specs.BackwardLaws.{score-number, walked_next, walked_stop, walked_done, long_part}
use Rattle.path_by_length_search.proofs.backward.long_pieces.Goals as goal

pub loop-k-init : goal.loop-k-init
loop-k-init c = (c.requires.walked.so_far.0, c.requires.walked, c.requires.long)

pub overflow_sub-len : goal.overflow_sub-len
overflow_sub-len c = ends_rise c.requires.scored.candidates (c.loop-k.k - 1) c.args.j (omega arith) c.requires.scored.inside

pub returns-then-table-len : goal.returns-then-table-len
unfolding piece_length
returns-then-table-len c =
    walked_stop c.requires.scored c.requires.costed c.loop-k.invariant.1 c.requires.from_le_j c.loop-k-test.true c.if-table-len.true

pub with_long_piece-requires : goal.with_long_piece-requires
unfolding piece_length
with_long_piece-requires c = let ok = c.requires.scored in
    let k = c.loop-k.k - 1 in
    let t = within_yes c.args.table.lengths.limit c.args.table.ends.left.now c.args.table.ends.right.now c.args.j k c.if-table-len.false in
    record { over_le_max_index = omega (arith, ok.few k (omega arith), ok.candidates.few); len_le_max_len = piece_bounded ok.candidates k c.args.j ok.inside; not_short = c.loop-k.invariant.2.none_short k (omega arith) (omega arith) t }

pub or_better-best-requires : goal.or_better-best-requires
unfolding piece_length
or_better-best-requires c = record { first_nonneg = rw c.with_long_piece.ensures (score-number c.requires.scored c.requires.costed (c.loop-k.k - 1) (omega arith)); second_nonneg = c.loop-k.invariant.1.number }

pub loop-k-preserved : goal.loop-k-preserved
unfolding piece_length
loop-k-preserved c = (
  omega arith,
  walked_next c.requires.scored c.requires.costed c.loop-k.invariant.1 _ c.loop-k-test.true c.if-table-len.false
      (rw c.with_long_piece.ensures at c.or_better-best.ensures.value) c.or_better-best.ensures.nonneg,
  long_part c.args.from (c.loop-k.k - 1) (le_refl c.args.from) (omega arith) c.loop-k.invariant.2,
)

pub returns : goal.returns
returns c = walked_done c.requires.scored c.requires.costed c.loop-k.invariant.1 c.requires.from_le_j c.loop-k-test.false
