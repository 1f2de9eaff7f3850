-- `backward::short_pieces` walks back while the piece is within the limit and below the minimum: what it holds is the lowest least of the candidates
-- passed. Where it stops, no piece from further back is both.
use Rattle.std.proofs.Common.{arith}
use mathlib.Core.Path.{refl, sym, ◌∙◌}
use Prim.Native.Nat.{◌-◌}
use Rattle.path_pieces.specs.Pieces.{piece_length}
use Rattle.path_pieces.specs.DomainLaws.{ends_rise, piece_bounded}
use Rattle.path_by_length_search.specs.BackwardLaws.{score-number, walked_next, long_over, long_met, long_none}
use Rattle.path_by_length_search.proofs.backward.short_pieces.Goals.{then-table-len-via-then-table-len, then-table-len-via-else-table-len+then-not-is_short}
use Rattle.path_by_length_search.proofs.backward.short_pieces.Goals as goal

pub loop-k-init : goal.loop-k-init
loop-k-init c = let w = c.requires.walked in (w.so_far.0, refl, w)

pub overflow_sub-len : goal.overflow_sub-len
overflow_sub-len c = ends_rise c.requires.scored.candidates (c.loop-k.k - 1) c.args.j (omega arith) c.requires.scored.inside

pub returns-then-table-len : goal.returns-then-table-len
unfolding piece_length
returns-then-table-len c =
    let w = c.loop-k.invariant.2 in
    rw c.loop-k.invariant.1 (record {
      walked_after = w;
      long = elim c.then-table-len.branch [
        | then-table-len-via-then-table-len x ↦ long_over c.requires.scored c.requires.costed w c.loop-k-test.true x.if-table-len.true
        | then-table-len-via-else-table-len+then-not-is_short x ↦ long_met c.requires.scored c.requires.costed w c.loop-k-test.true
            (sym x.is_short.ensures ∙ x.if-not-is_short.true)
      ];
    })

pub is_short-requires : goal.is_short-requires
unfolding piece_length
is_short-requires c = piece_bounded c.requires.scored.candidates (c.loop-k.k - 1) c.args.j c.requires.scored.inside

pub with_piece-requires : goal.with_piece-requires
unfolding piece_length
with_piece-requires c = let ok = c.requires.scored in
    let k = c.loop-k.k - 1 in
    record { over_le_max_index = omega (arith, ok.few k (omega arith), ok.candidates.few); len_le_max_len = piece_bounded ok.candidates k c.args.j ok.inside }

pub or_better-requires : goal.or_better-requires
unfolding piece_length
or_better-requires c = record { first_nonneg = rw c.with_piece.ensures (score-number c.requires.scored c.requires.costed (c.loop-k.k - 1) (omega arith)); second_nonneg = c.loop-k.invariant.2.number }

pub loop-k-preserved : goal.loop-k-preserved
unfolding piece_length
loop-k-preserved c = (
  omega arith,
  refl,
  walked_next c.requires.scored c.requires.costed c.loop-k.invariant.2 _ c.loop-k-test.true c.if-table-len.false
      (rw c.with_piece.ensures at c.or_better.ensures.value) c.or_better.ensures.nonneg,
)

pub returns : goal.returns
returns c = rw c.loop-k.invariant.1 (record { walked_after = c.loop-k.invariant.2; long = long_none c.args.table.lengths c.args.table.ends.left.now c.args.table.ends.right.now c.args.from c.args.j c.loop-k.k c.loop-k-test.false })
