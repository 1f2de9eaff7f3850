-- `reach::reach`: the maximum is feasible and so the reach, or the search finds it between the maximum and the span's length, which one piece keeps.
use Rattle.std.proofs.Common.{arith}
use Prim.Native.Nat.{◌-◌}
use Rattle.grid.specs.BoundaryLaws.{boundary_mono}
use Rattle.candidate_span.specs.Gaps.{gaps_of}
use Rattle.candidate_span.specs.GapsLaws.{spread_ends}
use Rattle.candidate_span.specs.Span.{span_in}
use Rattle.division.specs.ReachLaws.{reach-maximum, span_feasible}
use Rattle.completion_reach.specs.GroundLaws.{asked_pieces}
use Rattle.completion_reach.specs.FitsLaws.{told_feasible, told_infeasible}
use Rattle.completion_reach.specs.ReachLaws.{bracket_start, reach_of_lem}
use Rattle.completion_reach.proofs.reach.reach.Goals as goal

pub returns-then-fits : goal.returns-then-fits
returns-then-fits c =
    let s = span_in c.args.x.gap c.args.x.padding c.args.x.span c.args.silences.now in
    let pieces = c.min-pieces.result in
    let asked = asked_pieces s c.args.count c.kept_frames-frames.result pieces c.kept_frames-frames.ensures c.min-pieces.ensures in
    reach_of_lem c.args.x.grid s c.requires.founded.spread c.args.count c.requires.count_nonzero c.args.maximum c.args.maximum
    (reach-maximum c.args.x.grid s c.args.count c.args.maximum
    (told_feasible c.args.x.grid c.requires.founded.accepted s c.requires.founded.spread c.args.maximum c.args.count pieces asked c.fits.result c.fits.ensures c.if-fits.true))

pub overflow_sub-whole : goal.overflow_sub-whole
overflow_sub-whole c =
    let h = spread_ends c.args.x.span.first (gaps_of c.args.x.gap c.args.x.padding c.args.silences.now) c.args.x.span.last c.requires.founded.spread in
    omega (arith, c.position.ensures, c.position-2.ensures, boundary_mono c.args.x.grid c.requires.founded.accepted c.args.x.span.first c.args.x.span.last (omega (arith, h)))

pub bisect-requires : goal.bisect-requires
bisect-requires c = let s = span_in c.args.x.gap c.args.x.padding c.args.x.span c.args.silences.now in
    let pieces = c.min-pieces.result in
    let asked = asked_pieces s c.args.count c.kept_frames-frames.result pieces c.kept_frames-frames.ensures c.min-pieces.ensures in
    let never = told_infeasible c.args.x.grid c.requires.founded.accepted s c.requires.founded.spread c.args.maximum c.args.count pieces asked c.fits.result c.fits.ensures c.if-fits.false in
    let enough = span_feasible c.args.x.grid s c.requires.founded.spread c.args.count c.requires.count_nonzero (c.position.result - c.position-2.result) (omega (arith, c.position.ensures, c.position-2.ensures)) in
    record { founded = c.requires.founded; pieces_value = asked; bracket = bracket_start c.args.x.grid s c.args.count c.args.maximum _ never enough }

pub returns : goal.returns
returns c =
    reach_of_lem c.args.x.grid _ c.requires.founded.spread c.args.count c.requires.count_nonzero c.args.maximum c.bisect.result c.bisect.ensures
