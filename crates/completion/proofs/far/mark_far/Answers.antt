-- `far::mark_far`: the marks that are still ahead from the boundary that was come to, and those that were set, are all of them.
use Rattle.std.proofs.Common.{◌≡◌, ℕ, ◌+◌, ◌-◌, ◌*◌, sym, subst, inl, inr, arith}
use lib.Seq.{length-take-le}
use Rattle.completion_reach.specs.GroundLaws.{Founded}
use Rattle.completion.specs.CutsLaws.{MarkedUpTo, walking_start, walking_none, walking_whole, walking_stuck, walking_room, walking_to}
use Rattle.completion.proofs.far.mark_far.Goals as goal

pub loop-init : goal.loop-init
loop-init c =
    subst (λ (n : ℕ). MarkedUpTo c.args.x c.args.base c.args.pieces c.args.limit c.args.work.now c.args.x.span.first n c.args.work.now) (omega arith)
    (walking_start c.args.x c.args.base c.args.pieces c.args.limit c.args.work.now c.requires)

pub overflow_mul-x : goal.overflow_mul-x
overflow_mul-x c = omega (arith, c.requires.held, c.ranges)

pub slice_bounds-next_cut-end : goal.slice_bounds-next_cut-end
slice_bounds-next_cut-end c = omega (arith, c.requires.held, c.loop.invariant.size)

pub slice_bounds-next_cut-end-in-loop : goal.slice_bounds-next_cut-end-in-loop
slice_bounds-next_cut-end-in-loop c =
    sym (length-take-le (2 * c.args.x.span.silences) c.loop.work (omega (arith, c.requires.held, c.loop.invariant.size)))

pub next_cut-requires : goal.next_cut-requires
next_cut-requires c = subst (Founded c.args.x) (sym c.loop.invariant.same) c.requires.founded

pub shape_of-work-in-Whole : goal.shape_of-work-in-Whole
shape_of-work-in-Whole c = c.loop.invariant.size

pub returns-in-Whole : goal.returns-in-Whole
returns-in-Whole c =
    elim c.in-Whole.is [
      | inl e ↦ walking_whole c.args.x c.args.base c.args.pieces c.args.limit c.args.work.now c.requires c.loop.at (c.args.pieces - c.loop.counter) c.loop.work c.loop.invariant (omega (arith, c.loop-test.true)) c.next_cut.result c.next_cut.ensures e
      | inr e ↦ walking_stuck c.args.x c.args.base c.args.pieces c.args.limit c.args.work.now c.requires c.loop.at (c.args.pieces - c.loop.counter) c.loop.work c.loop.invariant (omega (arith, c.loop-test.true)) c.next_cut.result c.next_cut.ensures e
    ]

pub mark_cut-requires : goal.mark_cut-requires
mark_cut-requires c =
    walking_room c.args.x c.args.base c.args.pieces c.args.limit c.args.work.now c.requires c.loop.at (c.args.pieces - c.loop.counter) c.loop.work c.loop.invariant (omega (arith, c.loop-test.true)) c.next_cut.result c.next_cut.ensures
    c.in-To.cut c.in-To.is

pub loop-preserved : goal.loop-preserved
loop-preserved c =
    let e : c.args.pieces - (c.loop.counter + 1) ≡ c.args.pieces - c.loop.counter - 1 = omega arith in
    rw e (walking_to c.args.x c.args.base c.args.pieces c.args.limit c.args.work.now c.requires c.loop.at (c.args.pieces - c.loop.counter) c.loop.work c.loop.invariant (omega (arith, c.loop-test.true)) c.next_cut.result c.next_cut.ensures
    c.in-To.cut c.in-To.is _ c.mark_cut.ensures)

pub shape_of-work : goal.shape_of-work
shape_of-work c = c.loop.invariant.size

pub returns : goal.returns
returns c =
    walking_none c.args.x c.args.base c.args.pieces c.args.limit c.args.work.now c.requires c.loop.at (c.args.pieces - c.loop.counter) c.loop.work c.loop.invariant (omega (arith, c.loop-test.false))
