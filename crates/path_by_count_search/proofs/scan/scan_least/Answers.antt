-- `scan::scan_least` keeps the lowest least of the candidates passed; one more replaces it only where its score is better.
use Rattle.path_by_count_search.specs.StartsLaws.{start_at_lem, scan_first, scan_next, scan_done}
use Rattle.std.proofs.Common.{rules}
use Rattle.std.proofs.Common.{arith}
use Rattle.path_by_count_search.proofs.scan.scan_least.Goals as goal

pub overflow_add-base : goal.overflow_add-base
overflow_add-base c = omega (arith, c.requires.starts.overs)

pub score_from-requires : goal.score_from-requires
score_from-requires c = start_at_lem c.requires.starts _ c.requires.from_lt_to

pub loop-i-init : goal.loop-i-init
loop-i-init c =
    (omega arith, omega (arith, c.requires.from_lt_to), scan_first c.requires.starts c.args.from c.score_from.result c.requires.from_lt_to c.score_from.ensures)

pub overflow_add-base-in-loop-i : goal.overflow_add-base-in-loop-i
overflow_add-base-in-loop-i c = omega (arith, c.requires.starts.overs)

pub score_from-requires-in-loop-i : goal.score_from-requires-in-loop-i
score_from-requires-in-loop-i c = start_at_lem c.requires.starts _ (search rules)

pub loop-i-preserved : goal.loop-i-preserved
loop-i-preserved c = (
  search rules,
  search rules,
  scan_next c.requires.starts c.args.from c.loop-i.i c.score_from-in-loop-i.result c.loop-i.best c.or_later-best.result (search rules)
      c.score_from-in-loop-i.ensures c.or_later-best.ensures c.loop-i.invariant.2,
)

pub returns : goal.returns
returns c =
    scan_done c.requires.starts c.args.from c.loop-i.i c.loop-i.best c.requires.from_lt_to (omega arith) c.loop-i.invariant.2
