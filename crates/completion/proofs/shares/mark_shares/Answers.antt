-- `shares::mark_shares`: the marks of the shares that are still ahead, and those that were set, are all of them.
use Rattle.std.proofs.Common.{arith}
use mathlib.Core.Path.{sym}
use Prim.Native.Nat.{◌*◌}
use lib.Seq.{length-take-le}
use Rattle.completion.specs.SharesLaws.{sharing_start, sharing_done, product_few, share_at, share_room, share_requires, share_parted, sharing_room, sharing_next}
use Rattle.completion.proofs.shares.mark_shares.Goals as goal

pub loop-i-init : goal.loop-i-init
loop-i-init c =
    sharing_start c.args.x c.args.base c.args.frames c.args.pieces c.args.work.now c.requires.mark_room c.requires.sharable

pub overflow_mul-at : goal.overflow_mul-at
overflow_mul-at c =
    omega (arith, product_few c.args.x c.args.base c.args.frames c.args.pieces c.args.work.now c.requires.mark_room c.requires.sharable c.loop-i.i c.loop-i.passed c.loop-i.work c.loop-i.invariant c.loop-i-test.true)

pub overflow_add-at : goal.overflow_add-at
overflow_add-at c =
    omega (
      arith,
      share_at c.args.x c.args.base c.args.frames c.args.pieces c.args.work.now c.requires.mark_room c.requires.sharable c.loop-i.i c.loop-i.passed c.loop-i.work c.loop-i.invariant c.loop-i-test.true,
      share_room c.args.x c.args.base c.args.frames c.args.pieces c.args.work.now c.requires.mark_room c.requires.sharable c.loop-i.i c.loop-i.passed c.loop-i.work c.loop-i.invariant c.loop-i-test.true,
    )

pub overflow_mul-x : goal.overflow_mul-x
overflow_mul-x c = omega (arith, c.requires.mark_room.held, c.ranges)

pub slice_bounds-share_cut-end : goal.slice_bounds-share_cut-end
slice_bounds-share_cut-end c = omega (arith, c.requires.mark_room.held, c.loop-i.invariant.size)

pub slice_bounds-share_cut-end-in-loop-i : goal.slice_bounds-share_cut-end-in-loop-i
slice_bounds-share_cut-end-in-loop-i c =
    sym (length-take-le (2 * c.args.x.span.silences) c.loop-i.work (omega (arith, c.requires.mark_room.held, c.loop-i.invariant.size)))

pub share_cut-share-requires : goal.share_cut-share-requires
share_cut-share-requires c =
    share_requires c.args.x c.args.base c.args.frames c.args.pieces c.args.work.now c.requires.mark_room c.requires.sharable c.loop-i.i c.loop-i.passed c.loop-i.work c.loop-i.invariant c.loop-i-test.true

pub mark_cut-requires : goal.mark_cut-requires
mark_cut-requires c =
    let q = share_parted c.args.x c.args.base c.args.frames c.args.pieces c.args.work.now c.requires.mark_room c.requires.sharable c.loop-i.i c.loop-i.passed c.loop-i.work c.loop-i.invariant c.loop-i-test.true c.share_cut-share.result c.share_cut-share.ensures in
    sharing_room c.args.x c.args.base c.args.frames c.args.pieces c.args.work.now c.requires.mark_room c.requires.sharable c.loop-i.i c.loop-i.passed c.loop-i.work c.loop-i.invariant c.loop-i-test.true c.share_cut-share.result q

pub loop-i-preserved : goal.loop-i-preserved
loop-i-preserved c =
    let q = share_parted c.args.x c.args.base c.args.frames c.args.pieces c.args.work.now c.requires.mark_room c.requires.sharable c.loop-i.i c.loop-i.passed c.loop-i.work c.loop-i.invariant c.loop-i-test.true c.share_cut-share.result c.share_cut-share.ensures in
    sharing_next c.args.x c.args.base c.args.frames c.args.pieces c.args.work.now c.requires.mark_room c.requires.sharable c.loop-i.i c.loop-i.passed c.loop-i.work c.loop-i.invariant c.loop-i-test.true c.share_cut-share.result q _ c.mark_cut.ensures

pub shape_of-work : goal.shape_of-work
shape_of-work c = c.loop-i.invariant.size

pub returns : goal.returns
returns c =
    sharing_done c.args.x c.args.base c.args.frames c.args.pieces c.args.work.now c.requires.mark_room c.requires.sharable c.loop-i.i c.loop-i.passed c.loop-i.work c.loop-i.invariant c.loop-i-test.false
