-- A few candidates are compared one after the other, and else the halves are visited one after the other, the one that promises more first. A half is left
-- out only where its outlook is not ahead of the best so far.
use Rattle.std.proofs.Common.{sym, ◌∙◌, arith}
use Rattle.path_by_count_search.specs.StartsLaws.{arrival-nonneg}
use Rattle.path_by_count_search.specs.Visit.{through, FirstIn}
use Rattle.path_by_count_search.proofs.VisitLaws.{first-nonneg, halved, halves_parts, left_out, join_parts}
use Rattle.path_by_count_search.proofs.visit.+visit.Goals.{then-ahead, else-ahead}
use Rattle.path_by_count_search.proofs.visit.+visit.Goals as goal

pub halves-parts-requires : goal.halves-parts-requires
halves-parts-requires t c = halved c.args.query c.requires.covers (omega (arith, c.if-hi-lo-le-FEW.false)) c.requires.starts

pub visit-found-requires : goal.visit-found-requires
visit-found-requires t c =
    let p = halves_parts c.args.query c.requires.covers (omega (arith, c.if-hi-lo-le-FEW.false)) c.halves-parts.ensures in
    (omega (arith, c.decreases, p.one.less), (c.requires.starts, (p.one.covers, c.requires.nonneg)))

pub visit-requires : goal.visit-requires
visit-requires t c =
    let q = c.args.query in
    let p = halves_parts q c.requires.covers (omega (arith, c.if-hi-lo-le-FEW.false)) c.halves-parts.ensures in
    let part = c.halves-parts.result.first in
    let one : FirstIn (through q c.args.right.now c.args.over.now c.args.cost.now) part.lo part.hi q.from q.to c.args.best c.if-ahead.found = elim c.if-ahead.branch [
      | then-ahead w ↦ rw w.found-is w.visit-found.ensures
      | else-ahead w ↦ rw w.found-is (left_out q c.requires.starts p.one c.requires.nonneg (sym c.ahead.ensures ∙ w.if-ahead.false))
    ] in (
      omega (arith, c.decreases, p.other.less),
      (c.requires.starts, (p.other.covers, first-nonneg (through q c.args.right.now c.args.over.now c.args.cost.now) (arrival-nonneg c.requires.starts) c.requires.nonneg one)),
    )

pub returns-then-ahead-2 : goal.returns-then-ahead-2
returns-then-ahead-2 t c =
    let q = c.args.query in
    let p = halves_parts q c.requires.covers (omega (arith, c.if-hi-lo-le-FEW.false)) c.halves-parts.ensures in
    let part = c.halves-parts.result.first in
    let one : FirstIn (through q c.args.right.now c.args.over.now c.args.cost.now) part.lo part.hi q.from q.to c.args.best c.if-ahead.found = elim c.if-ahead.branch [
      | then-ahead w ↦ rw w.found-is w.visit-found.ensures
      | else-ahead w ↦ rw w.found-is (left_out q c.requires.starts p.one c.requires.nonneg (sym c.ahead.ensures ∙ w.if-ahead.false))
    ] in
    join_parts q c.args.best c.if-ahead.found c.visit.result p one c.visit.ensures

pub returns-else-ahead-2 : goal.returns-else-ahead-2
returns-else-ahead-2 t c =
    let q = c.args.query in
    let p = halves_parts q c.requires.covers (omega (arith, c.if-hi-lo-le-FEW.false)) c.halves-parts.ensures in
    let part = c.halves-parts.result.first in
    let one : FirstIn (through q c.args.right.now c.args.over.now c.args.cost.now) part.lo part.hi q.from q.to c.args.best c.if-ahead.found = elim c.if-ahead.branch [
      | then-ahead w ↦ rw w.found-is w.visit-found.ensures
      | else-ahead w ↦ rw w.found-is (left_out q c.requires.starts p.one c.requires.nonneg (sym c.ahead.ensures ∙ w.if-ahead.false))
    ] in
    let found = first-nonneg (through q c.args.right.now c.args.over.now c.args.cost.now) (arrival-nonneg c.requires.starts) c.requires.nonneg one in
    join_parts q c.args.best c.if-ahead.found c.if-ahead.found p one
    (left_out q c.requires.starts p.other found (sym c.ahead-2.ensures ∙ c.if-ahead-2.false))
