-- `collect::pass_all`: the walk of CollectStep, step by step.
use Rattle.std.proofs.Common.{arith}
use mathlib.Core.Path.{refl, sym, ap, ◌∙◌}
use mathlib.Core.Bool.{Bool, not, ◌||◌}
use Rattle.std.specs.Prelude.{is_some}
use Prim.Native.Nat.{ℕ, ◌+◌}
use lib.Dec.{eqb}
use lib.ListN.{get_or}
use Rattle.candidate_walk.specs.CollectStep.{last_in_lem, first_below, walk_lengths, walk_passing}
use Rattle.candidate_walk.specs.CollectNext.{walk_next, walk_none, walk_start, walk_done}
use Rattle.candidate_walk.proofs.collect.pass_all.Goals as goal
use Rattle.candidate_walk.proofs.collect.pass_all.Goals.{else-marked-is_some, then-marked-is_some}

pub overflow_step-k : goal.overflow_step-k
overflow_step-k c =
    omega (arith, first_below c.requires.collectable c.requires.inner_range, last_in_lem c.requires.collectable c.requires.inner_range, c.requires.collectable.holding.few)

pub loop-k-init : goal.loop-k-init
loop-k-init c =
    walk_start c.requires.collectable c.requires.inner_range refl c.requires.own_value refl

pub overflow_add-marked : goal.overflow_add-marked
overflow_add-marked c =
    omega (arith, c.marks_at-marks.ensures, c.loop-k-test.true, last_in_lem c.requires.collectable c.requires.inner_range, c.requires.collectable.holding.few)

pub offset_bounds-work_u32-marks : goal.offset_bounds-work_u32-marks
offset_bounds-work_u32-marks c =
    omega (arith, c.marks_at-marks.ensures, c.loop-k-test.true, last_in_lem c.requires.collectable c.requires.inner_range, c.requires.collectable.holding.few)

pub bounds-work_u32-marks : goal.bounds-work_u32-marks
bounds-work_u32-marks c =
    omega (arith, c.marks_at-marks.ensures, c.loop-k-test.true, last_in_lem c.requires.collectable c.requires.inner_range, c.requires.collectable.holding.room, (walk_lengths c.requires.collectable c.requires.inner_range c.loop-k.invariant).0)

pub pass-w-requires : goal.pass-w-requires
pass-w-requires c =
    walk_passing c.requires.collectable c.requires.inner_range c.loop-k.invariant c.loop-k-test.true

pub loop-k-smaller : goal.loop-k-smaller
loop-k-smaller c = omega (arith, c.loop-k-test.true)

pub loop-k-preserved : goal.loop-k-preserved
loop-k-preserved c =
    let t = c.loop-k-test.true in
    let read = ap (λ (at : ℕ). not (eqb (get_or c.loop-k.work_u32 (at + c.loop-k.k) 0) 0)) c.marks_at-marks.ensures in
    elim c.if-marked-is_some.branch [ then-marked-is_some w ↦ walk_next c.requires.collectable c.requires.inner_range c.loop-k.invariant t read (w.w-is ∙ w.pass-w.ensures.value) (w.work_u32-is ∙ w.pass-w.ensures.work_u32_after) (w.work_f64-is ∙ w.pass-w.ensures.work_f64_after) | else-marked-is_some w ↦ rw (w.work_u32-is, w.work_f64-is, w.w-is) (walk_none c.requires.collectable c.requires.inner_range c.loop-k.invariant t read (ap (λ (b : Bool). not (eqb (get_or c.loop-k.work_u32 (c.marks_at-marks.result + c.loop-k.k) 0) 0) || b) (sym (c.is_some.ensures ∙ ap is_some c.own_here.ensures)) ∙ w.if-marked-is_some.false)) ]

pub shape_of-work_u32 : goal.shape_of-work_u32
shape_of-work_u32 c = (walk_lengths c.requires.collectable c.requires.inner_range c.loop-k.invariant).0

pub shape_of-work_f64 : goal.shape_of-work_f64
shape_of-work_f64 c = (walk_lengths c.requires.collectable c.requires.inner_range c.loop-k.invariant).1

pub returns : goal.returns
returns c = let d = walk_done c.requires.collectable c.requires.inner_range c.loop-k-test.false c.loop-k.invariant in
    record { value = d.0; work_u32_after = d.1; work_f64_after = d.2 }
