-- `fits::fits`: what is left of the way from the boundary that was come to, with the pieces that are left, decides as the whole way does.
use Rattle.std.proofs.Common.{◌≡◌, sym, ◌∙◌, arith, ◌+◌, ◌-◌}
use Rattle.completion_reach.specs.FitsLaws.{fits_whole, fits_stuck, fits-to, fits-none}
use Rattle.completion_reach.proofs.fits.fits.Goals as goal

pub returns-in-Whole : goal.returns-in-Whole
returns-in-Whole c =
    sym (fits_whole c.args.x.grid _ c.args.limit (c.args.pieces - c.loop.counter) c.loop.at (omega (arith, c.loop-test.true)) c.next_cut.result c.next_cut.ensures c.in-Whole.is) ∙ c.loop.invariant

pub returns-in-Stuck : goal.returns-in-Stuck
returns-in-Stuck c =
    sym (fits_stuck c.args.x.grid _ c.args.limit (c.args.pieces - c.loop.counter) c.loop.at (omega (arith, c.loop-test.true)) c.next_cut.result c.next_cut.ensures c.in-Stuck.is) ∙ c.loop.invariant

pub loop-preserved : goal.loop-preserved
loop-preserved c =
    let on = sym (fits-to c.args.x.grid _ c.args.limit (c.args.pieces - c.loop.counter) c.loop.at (omega (arith, c.loop-test.true)) c.next_cut.result c.next_cut.ensures c.in-To.cut c.in-To.is) ∙ c.loop.invariant in
    let e : c.args.pieces - (c.loop.counter + 1) ≡ c.args.pieces - c.loop.counter - 1 = omega arith in
    rw e on

pub returns : goal.returns
returns c =
    sym (fits-none c.args.x.grid _ c.args.limit (c.args.pieces - c.loop.counter) c.loop.at (omega (arith, c.loop-test.false))) ∙ c.loop.invariant
