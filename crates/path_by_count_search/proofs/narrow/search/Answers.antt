-- `narrow::search` goes down as long as one half holds the query: the place encloses it all the way, so that the first of its range is the first of all.
use Rattle.path_by_count_search.specs.Visit.{through}
use Rattle.path_by_count_search.proofs.VisitLaws.{whole-first}
use Rattle.path_by_count_search.specs.NarrowLaws.{narrower_shorter, encloses_root, encloses_some, encloses_nodes, encloses_narrower}
use Rattle.std.proofs.Common.{arith}
use Rattle.path_by_count_search.proofs.narrow.search.Goals as goal

pub loop-place-init : goal.loop-place-init
loop-place-init c = encloses_root c.requires.covers c.requires.to_le_leaves

pub overflow_sub-place : goal.overflow_sub-place
overflow_sub-place c = omega (arith, encloses_some c.loop-place.invariant)

pub narrower-next-requires : goal.narrower-next-requires
narrower-next-requires c = let x = c.loop-place.invariant in
    record { lo_le_hi = omega (arith, encloses_some x); node_bound = omega (arith, encloses_nodes x (omega (arith, c.loop-place-test.true)), c.well_formed) }

pub visit-requires : goal.visit-requires
visit-requires c = record { starts = c.requires.starts; covers = c.loop-place.invariant.covers; nonneg = c.requires.nonneg }

pub loop-place-smaller : goal.loop-place-smaller
loop-place-smaller c =
    let q = c.args.query in
    narrower_shorter c.loop-place.place q.from q.to (omega (arith, c.loop-place-test.true)) c.narrower-next.ensures c.if-next-place.false

pub loop-place-preserved : goal.loop-place-preserved
loop-place-preserved c =
    encloses_narrower c.loop-place.invariant (omega (arith, c.loop-place-test.true)) c.narrower-next.ensures

pub returns : goal.returns
returns c =
    let q = c.args.query in
    let x = c.loop-place.invariant in
    whole-first (through q c.args.right.now c.args.over.now c.args.cost.now) q.leaves x.low x.high c.requires.to_le_leaves c.visit.ensures
