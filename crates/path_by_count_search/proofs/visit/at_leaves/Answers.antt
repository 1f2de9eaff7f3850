-- `visit::at_leaves` keeps the first of the best so far and the candidates passed; those before and behind the range do not lie in the query.
use Rattle.path_by_count_search.specs.StartsLaws.{start_at_lem, arrival-nonneg}
use Rattle.path_by_count_search.specs.Visit.{through}
use Rattle.path_by_count_search.proofs.VisitLaws.{none_first, next_first, all_first, first-nonneg}
use Rattle.std.proofs.Common.{arith, max, min, refl}
use Rattle.path_by_count_search.proofs.visit.at_leaves.Goals as goal

pub loop-i-init : goal.loop-i-init
loop-i-init c =
    let q = c.args.query in
    rw c.max-i.ensures (omega arith, omega arith, none_first (through q c.args.right.now c.args.over.now c.args.cost.now) (max c.args.lo q.from) q.from q.to c.args.best c.requires.nonneg)

pub at_leaf-first-requires : goal.at_leaf-first-requires
at_leaf-first-requires c =
    start_at_lem c.requires.starts _ (omega (arith, c.loop-i-test.true, c.min-i-end.ensures))

pub loop-i-preserved : goal.loop-i-preserved
loop-i-preserved c =
    let q = c.args.query in
    let score = through q c.args.right.now c.args.over.now c.args.cost.now in
    let fine = arrival-nonneg c.requires.starts in (
      omega (arith, c.loop-i.invariant.0),
      omega (arith, c.loop-i.invariant.1, c.loop-i-test.true, c.min-i-end.ensures),
      next_first score (max c.args.lo q.from) c.loop-i.i q.from q.to c.args.best c.loop-i.first c.at_leaf-first.result c.loop-i.invariant.0
          (omega (arith, c.loop-i.invariant.0)) (omega (arith, c.loop-i-test.true, c.min-i-end.ensures))
          (fine c.loop-i.i (omega (arith, c.loop-i-test.true, c.min-i-end.ensures))) (first-nonneg score fine c.requires.nonneg c.loop-i.invariant.2) c.loop-i.invariant.2 c.at_leaf-first.ensures,
    )

pub returns : goal.returns
returns c =
    let q = c.args.query in
    all_first (through q c.args.right.now c.args.over.now c.args.cost.now) (max c.args.lo q.from) (min c.args.hi q.to)
    c.loop-i.i c.args.lo c.args.hi q.from q.to c.args.best c.loop-i.first refl refl
    (omega (arith, c.loop-i-test.false, c.min-i-end.ensures)) c.loop-i.invariant.1 c.loop-i.invariant.2
