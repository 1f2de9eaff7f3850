-- `held::own_in` lends the silences and the levels as parts.
use Rattle.std.proofs.Common.{arith}
use mathlib.Core.Path.{sym, ap, ◌∙◌}
use mathlib.Core.List.{List}
use Prim.Native.Nat.{◌*◌}
use lib.Ieee.{Float}
use lib.Seq.{length-take-le}
use Rattle.candidates.specs.Candidates.{own_at}
use Rattle.candidate_walk.specs.Held.{silences_held}
use Rattle.candidate_walk.specs.CollectLaws.{lent-levels, lent_cuttable}
use Rattle.candidate_walk.proofs.held.own_in.Goals as goal

pub slice_bounds-own-end : goal.slice_bounds-own-end
slice_bounds-own-end c = sym (length-take-le (2 * c.args.silences) c.args.work_u32.now (omega (arith, c.requires.holding.apart, c.requires.holding.room)))

pub slice_bounds-own-end-2 : goal.slice_bounds-own-end-2
slice_bounds-own-end-2 c =
    sym (length-take-le c.side-side.result c.args.work_f64.now (omega (arith, c.side-side.ensures, c.requires.holding.roomf)))

pub own-requires : goal.own-requires
own-requires c =
    lent_cuttable c.args.x c.args.silences c.args.work_u32.now c.args.work_f64.now c.requires.holding c.side-side.result c.side-side.ensures c.args.i c.requires.at_silence

pub returns : goal.returns
returns c =
    c.own.ensures
    ∙ ap (λ (levels : List Float). own_at c.args.x (silences_held c.args.silences c.args.work_u32.now) levels c.args.i) (lent-levels c.args.x c.args.silences c.args.work_u32.now c.args.work_f64.now c.requires.holding c.side-side.result c.side-side.ensures)
