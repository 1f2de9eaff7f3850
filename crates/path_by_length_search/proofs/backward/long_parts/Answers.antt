-- `backward::long_parts` walks back part by part: each part is what `long_pieces` finds in it. It stops where a piece is too long, or where one past the
-- target is worse by itself than the best so far, since pieces that start further back are no shorter.
use Rattle.std.proofs.Common.{arith}
use native.Mathlib.Nat.{le_refl}
use mathlib.Core.Path.{sym, ◌∙◌}
use Prim.Native.Nat.{◌-◌}
use Rattle.path_pieces.specs.Pieces.{piece_length}
use Rattle.path_pieces.specs.DomainLaws.{ends_rise, piece_bounded}
use Rattle.path_pieces.specs.PredecessorLaws.{within_yes}
use Rattle.path_by_length_search.specs.BackwardLaws.{walked_stop, walked_done, walked_beyond, walked_from, long_part}
use Rattle.path_by_length_search.proofs.backward.long_parts.Goals.{then-table-len-via-then-table-len, then-table-len-via-else-table-len+then-none_better}
use Rattle.path_by_length_search.proofs.backward.long_parts.Goals as goal

pub loop-i-init : goal.loop-i-init
loop-i-init c = (c.requires.walked.so_far.0, c.requires.walked, c.requires.long)

pub overflow_sub-len-in-loop-i : goal.overflow_sub-len-in-loop-i
overflow_sub-len-in-loop-i c = ends_rise c.requires.scored.candidates (c.loop-i.i - 1) c.args.j (omega arith) c.requires.scored.inside

pub returns-then-table-len : goal.returns-then-table-len
unfolding piece_length
returns-then-table-len c =
    let k = c.loop-i.i - 1 in
    let stop = c.loop-i.invariant.1 in
    elim c.then-table-len.branch [
      | then-table-len-via-then-table-len x ↦ walked_stop c.requires.scored c.requires.costed stop c.requires.from_le_j c.loop-i-test.true x.if-table-len.true
      | then-table-len-via-else-table-len+then-none_better x ↦
          let t = within_yes c.args.table.lengths.limit c.args.table.ends.left.now c.args.table.ends.right.now c.args.j k x.if-table-len.false in
          walked_beyond c.requires.scored c.requires.costed stop c.requires.from_le_j c.loop-i-test.true (c.loop-i.invariant.2.none_short k (omega arith) (omega arith) t)
          (sym x.none_better.ensures ∙ x.if-none_better.true)
    ]

pub none_better-requires : goal.none_better-requires
unfolding piece_length
none_better-requires c = let k = c.loop-i.i - 1 in
    let t = within_yes c.args.table.lengths.limit c.args.table.ends.left.now c.args.table.ends.right.now c.args.j k c.if-table-len.false in
    record { len_le_max_len = piece_bounded c.requires.scored.candidates k c.args.j c.requires.scored.inside; not_short = c.loop-i.invariant.2.none_short k (omega arith) (omega arith) t }

pub long_pieces-best-requires : goal.long_pieces-best-requires
long_pieces-best-requires c = let to = c.part_start-to.result in
    record { scored = c.requires.scored; costed = c.requires.costed; from_le_j = omega (arith, c.loop-i.invariant.0); walked = walked_from to (omega arith) c.loop-i.invariant.1; long = long_part to c.loop-i.i c.part_start-to.ensures.lower_bound (le_refl c.loop-i.i) c.loop-i.invariant.2 }

pub loop-i-preserved : goal.loop-i-preserved
loop-i-preserved c =
    let to = c.part_start-to.result in
    (omega (arith, c.loop-i.invariant.0), walked_from c.args.from c.part_start-to.ensures.lower_bound c.long_pieces-best.ensures, long_part c.args.from to (le_refl c.args.from) (omega arith) c.loop-i.invariant.2)

pub returns : goal.returns
returns c = walked_done c.requires.scored c.requires.costed c.loop-i.invariant.1 c.requires.from_le_j c.loop-i-test.false
