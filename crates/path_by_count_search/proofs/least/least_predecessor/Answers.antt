-- `least::least_predecessor` meets its contract on both ways: the scan by its own, the search over the tree by the theorem that it gives the plain least,
-- from whichever candidate of the range it starts.
use Rattle.base_terms.specs.Floats.{nonneg}
use Rattle.path_pieces.specs.Pieces.{with_piece, length_cost_of}
use Rattle.path_pieces.specs.declared.score.Score.{Score}
use lib.Dec.{T}
use Rattle.path_by_count_search.specs.Starts.{arrival_at}
use Rattle.path_by_count_search.specs.StartsLaws.{start_at_lem, arrival-nonneg, starts_held}
use Rattle.path_by_count_search.specs.Theorems.{visit_is_least}
use Rattle.std.proofs.Common.{arith}
use mathlib.Core.Path.{sym, subst}
use Rattle.path_by_count_search.proofs.least.least_predecessor.Goals as goal

pub scan_least-requires : goal.scan_least-requires
scan_least-requires c = record { starts = c.requires.starts; from_lt_to = c.requires.from_lt_to }

pub returns-then-to-from-le16 : goal.returns-then-to-from-le16
returns-then-to-from-le16 c = c.scan_least.ensures

pub overflow_add-leaves : goal.overflow_add-leaves
overflow_add-leaves c = omega (arith, c.requires.starts.overs, c.well_formed, c.min-at.ensures)

pub score_from-score-requires : goal.score_from-score-requires
score_from-score-requires c = start_at_lem c.requires.starts c.min-at.result (omega (arith, c.min-at.ensures, c.requires.from_lt_to))

pub search-requires : goal.search-requires
search-requires c = let inside = arrival-nonneg c.requires.starts c.min-at.result (omega (arith, c.min-at.ensures, c.requires.from_lt_to)) in
    record { starts = starts_held c.requires.starts; covers = c.requires.covers; to_le_leaves = c.requires.to_le_leaves; nonneg = subst (λ (s : Score). T (nonneg s.cost)) (sym c.score_from-score.ensures) inside }

pub returns : goal.returns
unfolding with_piece length_cost_of
returns c =
    visit_is_least (arrival_at c.args.lengths c.args.right.now c.args.over.now c.args.cost.now c.args.leaves c.args.end)
    c.args.leaves c.args.from c.args.to c.min-at.result c.score_from-score.result c.search.result (arrival-nonneg c.requires.starts)
    (omega (arith, c.min-at.ensures, c.max.ensures, c.requires.from_lt_to)) (omega (arith, c.min-at.ensures, c.requires.from_lt_to))
    c.requires.to_le_leaves c.score_from-score.ensures c.search.ensures
