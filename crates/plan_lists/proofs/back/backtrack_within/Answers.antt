-- `back::backtrack_within` writes behind the parents, so each is still there when it is read, and the walk is the one that writes to a list of its own.
use Rattle.std.proofs.Common.{arith}
use mathlib.Core.Path.{refl}
use Prim.Native.Nat.{◌+◌, ◌-◌, ◌≤◌, ◌<◌}
use lib.ListN.{length, drop, length-set, length-take}
use Rattle.plan_lists.specs.BackLaws.{within_start, within-room, within_inside, within_later, within_next, within_read, within_done}
use Rattle.plan_lists.proofs.back.backtrack_within.Goals as goal
use Rattle.plan_lists.proofs.back.backtrack_within.Goals.{At-loop-k}

-- there is a place for the candidate, and its parent stands before the path
places : (c : At-loop-k) → (0 < c.loop-k.k) × (c.args.at + c.loop-k.k ≤ length c.loop-k.work)
places c = within-room c.args.parents c.args.n c.args.at c.requires c.loop-k.invariant.1

inside : (c : At-loop-k) → (c.loop-k.j < c.args.n) × (c.args.parents + c.loop-k.j < c.args.at)
inside c = within_inside c.args.parents c.args.n c.args.at c.requires c.loop-k.invariant.1

pub overflow_sub-j : goal.overflow_sub-j
overflow_sub-j c = omega (arith, c.requires.leads.inside, length-take c.args.n (drop c.args.parents c.args.work.now))

pub loop-k-init : goal.loop-k-init
loop-k-init c = (refl, within_start c.args.parents c.args.n c.args.at c.requires)

pub overflow_cast-work : goal.overflow_cast-work
overflow_cast-work c = omega (arith, inside (goal.at.overflow_cast-work c).At-loop-k, c.requires.leads.few)

pub overflow_add-work : goal.overflow_add-work
overflow_add-work c = omega (arith, places (goal.at.overflow_add-work c).At-loop-k, c.well_formed)

pub offset_bounds-work-at : goal.offset_bounds-work-at
offset_bounds-work-at c = omega (arith, places (goal.at.offset_bounds-work-at c).At-loop-k, c.well_formed)

pub bounds-work-at : goal.bounds-work-at
bounds-work-at c = omega (arith, places (goal.at.bounds-work-at c).At-loop-k)

pub bounds-work-parents : goal.bounds-work-parents
bounds-work-parents c = omega (arith, inside (goal.at.bounds-work-parents c).At-loop-k, places (goal.at.bounds-work-parents c).At-loop-k, length-set c.loop-k.work (c.args.at + (c.loop-k.k - 1)) c.loop-k.j)

pub overflow_cast-j : goal.overflow_cast-j
overflow_cast-j c = omega (arith, c.type_inv.work (c.args.parents + c.loop-k.j))

pub loop-k-preserved : goal.loop-k-preserved
loop-k-preserved c =
    let next = within_next c.args.parents c.args.n c.args.at c.requires c.loop-k.invariant.1 (c.loop-k.k - 1) refl
    (within_later c.args.parents c.args.n c.args.at c.requires c.loop-k.invariant.1 c.loop-k-test.true) in
    rw (within_read c.args.parents c.args.n c.args.at c.requires c.loop-k.invariant.1 (c.loop-k.k - 1)) (next.same, next)

pub bounds-work-at-2 : goal.bounds-work-at-2
bounds-work-at-2 c = omega (arith, places (goal.at.bounds-work-at-2 c).At-loop-k)

pub returns : goal.returns
returns c =
    within_done c.args.parents c.args.n c.args.at c.requires c.loop-k.invariant.1 c.loop-k-test.false
