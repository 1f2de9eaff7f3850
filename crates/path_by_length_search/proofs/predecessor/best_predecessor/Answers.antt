-- `predecessor::best_predecessor` starts from the candidate just before j. Where the piece from there is over the limit it is the only one allowed; else
-- the walk back holds the best of all that are within the limit.
use Rattle.std.proofs.Common.{arith}
use mathlib.Core.Path.{sym, ◌∙◌}
use Prim.Native.Nat.{◌-◌}
use Rattle.path_pieces.specs.Pieces.{piece_length, score_at}
use Rattle.path_pieces.specs.DomainLaws.{ends_rise, piece_bounded}
use Rattle.path_pieces.specs.PredecessorLaws.{predecessor_within, predecessor_nearest, predecessor_nothing}
use Rattle.path_by_length_search.specs.BackwardLaws.{walked_first}
use Rattle.path_by_length_search.proofs.predecessor.best_predecessor.Goals as goal

pub returns-then-j-from : goal.returns-then-j-from
returns-then-j-from c =
    predecessor_nothing c.args.lengths c.args.ends.now.left.now c.args.ends.now.right.now (score_at c.args.over.now c.args.cost.now)
    c.args.from c.args.j c.requires.scored.candidates c.requires.scored.inside c.if-j-from.true

pub overflow_sub-len : goal.overflow_sub-len
overflow_sub-len c = ends_rise c.requires.scored.candidates (c.args.j - 1) c.args.j (omega arith) c.requires.scored.inside

pub with_piece-requires : goal.with_piece-requires
unfolding piece_length
with_piece-requires c = let ok = c.requires.scored in
    let k = c.args.j - 1 in
    record { over_le_max_index = omega (arith, ok.few k (omega arith), ok.candidates.few); len_le_max_len = piece_bounded ok.candidates k c.args.j ok.inside }

pub returns-then-lengths-len : goal.returns-then-lengths-len
unfolding piece_length
returns-then-lengths-len c =
    rw c.with_piece.ensures
    (sym (predecessor_nearest c.args.lengths c.args.ends.now.left.now c.args.ends.now.right.now (score_at c.args.over.now c.args.cost.now)
    c.args.from c.args.j c.requires.scored.candidates c.requires.scored.inside c.if-j-from.false c.if-lengths-len.true))

pub short_pieces-walk-requires : goal.short_pieces-walk-requires
unfolding piece_length
short_pieces-walk-requires c = record { scored = c.requires.scored; costed = c.requires.costed; walked = rw c.with_piece.ensures (walked_first c.requires.scored c.requires.costed c.args.from c.if-j-from.false c.if-lengths-len.false) }

pub long_parts-requires : goal.long_parts-requires
long_parts-requires c = record { scored = c.requires.scored; costed = c.requires.costed; from_le_j = omega (arith, c.if-j-from.false); walked = c.short_pieces-walk.ensures.walked_after; long = c.short_pieces-walk.ensures.long }

pub returns : goal.returns
unfolding piece_length
returns c =
    c.long_parts.ensures.so_far.2
    ∙ sym (predecessor_within c.args.lengths c.args.ends.now.left.now c.args.ends.now.right.now (score_at c.args.over.now c.args.cost.now)
    c.args.from c.args.j c.requires.scored.candidates c.requires.scored.inside c.if-lengths-len.false)
