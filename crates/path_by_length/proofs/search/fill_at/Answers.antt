-- `search::fill_at` settles one candidate: the lists hold the best scores before it, so the predecessor found is its parent. The one just before it
-- may always be taken, so some predecessor is found.
use Rattle.std.proofs.Common.{arith}
use mathlib.Core.Path.{sym, ◌∙◌}
use lib.ListN.{length, length-set}
use Rattle.path_by_length.proofs.SolvedLaws.{part_behind, ready_scored, ready_costed, ready_some, ready_score, ready_parent, ready_below}
use Rattle.path_by_length.proofs.search.fill_at.Goals as goal

pub best_predecessor-requires : goal.best_predecessor-requires
best_predecessor-requires c = record { scored = ready_scored c.requires; costed = ready_costed c.requires }

pub unwrap-best-requires : goal.unwrap-best-requires
unwrap-best-requires c = ready_some c.requires _ c.best_predecessor.ensures

pub overflow_cast-over : goal.overflow_cast-over
overflow_cast-over c =
    omega (arith, ready_below c.requires _ (sym c.unwrap-best.ensures ∙ c.best_predecessor.ensures), c.requires.inside, c.requires.room.domain.candidates.few)

pub bounds-over-behind : goal.bounds-over-behind
bounds-over-behind c = simp length-set (omega (arith, c.behind_table-behind.ensures, c.requires.inside, c.requires.room.overs))

pub returns : goal.returns
returns c = let found = sym c.unwrap-best.ensures ∙ c.best_predecessor.ensures in
    let score = (rw (part_behind (length c.args.ends.now.left.now) c.behind_table-behind.ensures c.end_by_length.ensures) at c.with_cut_at-here.ensures) ∙ ready_score c.requires _ found in
    record { over_after = rw (score, ready_parent c.requires _ found, c.behind_table-behind.ensures); cost_after = rw score }
