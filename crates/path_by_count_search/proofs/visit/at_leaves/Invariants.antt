use Rattle.path_by_count_search.specs.Visit.{FirstIn, through}
use Prim.Native.Nat.{◌≤◌, max, min}
use Rattle.path_by_count_search.proofs.visit.at_leaves.Given as goal

abbrev pub invariant-loop-i : goal.invariant-loop-i
invariant-loop-i l =
    let q = l.query in
    let start = max l.lo q.from in
    (start ≤ l.i) × (l.i ≤ max start (min l.hi q.to)) × FirstIn (through q l.right l.over l.cost) start l.i q.from q.to l.initial.first l.first
