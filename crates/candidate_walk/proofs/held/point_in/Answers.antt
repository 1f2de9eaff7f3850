-- `held::point_in` lends silences, stretches and levels as parts.
use Rattle.std.proofs.Common.{arith}
use mathlib.Core.Path.{sym, ap, ◌∙◌}
use mathlib.Core.List.{List}
use Prim.Native.Nat.{ℕ, ◌*◌}
use lib.Ieee.{Float}
use lib.ListN.{take}
use lib.Seq.{length-take-le}
use Rattle.candidates.specs.Candidates.{point_at}
use Rattle.candidate_walk.specs.Held.{silences_held, runs_held}
use Rattle.candidate_walk.specs.CollectLaws.{lent-levels, lent_heard, lent_runs, lent_stretched}
use Rattle.candidate_walk.proofs.held.point_in.Goals as goal

pub slice_bounds-point-end : goal.slice_bounds-point-end
slice_bounds-point-end c = sym (length-take-le (2 * c.args.silences) c.args.work_u32.now (omega (arith, c.requires.holding.apart, c.requires.holding.room)))

pub slice_bounds-point-end-3 : goal.slice_bounds-point-end-3
slice_bounds-point-end-3 c =
    sym (length-take-le c.side-side.result c.args.work_f64.now (omega (arith, c.side-side.ensures, c.requires.holding.roomf)))

pub point-requires : goal.point-requires
point-requires c = record { heard = lent_heard c.args.x c.args.silences c.args.work_u32.now c.args.work_f64.now c.requires.holding c.side-side.result c.side-side.ensures c.args.k c.requires.at_boundary.within; stretched = lent_stretched c.args.x c.args.silences c.args.work_u32.now c.args.work_f64.now c.requires.holding c.runs_at-runs.result c.runs_at-runs.ensures c.args.k c.requires.at_boundary.within }

pub returns : goal.returns
returns c =
    c.point.ensures
    ∙ ap (λ (runs : List ℕ). point_at c.args.x (silences_held c.args.silences c.args.work_u32.now) runs (take c.side-side.result c.args.work_f64.now) c.args.k) (lent_runs c.args.x c.args.silences c.args.work_u32.now c.args.work_f64.now c.requires.holding c.runs_at-runs.result c.runs_at-runs.ensures)
    ∙ ap (λ (levels : List Float). point_at c.args.x (silences_held c.args.silences c.args.work_u32.now) (runs_held c.args.x.padding.frames c.args.work_u32.now) levels c.args.k) (lent-levels c.args.x c.args.silences c.args.work_u32.now c.args.work_f64.now c.requires.holding c.side-side.result c.side-side.ensures)
