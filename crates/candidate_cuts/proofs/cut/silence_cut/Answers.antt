-- `cut::silence_cut`: one law for each end, over the bounds that the callee gives.
use Rattle.std.proofs.Common.{arith}
use mathlib.Core.Path.{◌≡◌}
use Rattle.plan_settings.specs.declared.config.Gap.{Gap}
use Rattle.plan_settings.specs.declared.config.Gap.TheVariants.{Keep, Drop}
use Rattle.candidate_cuts.specs.PlaceLaws.{chosen_within}
use Rattle.candidate_cuts.specs.CutLaws.{split_within, whole_bounded, bounds_placeable, silence_overlaps, silence-keeps, silence_drops}
use Rattle.candidate_cuts.proofs.cut.silence_cut.Goals as goal

pub split_point-requires : goal.split_point-requires
split_point-requires c = record { next_start_le_prev_end = omega (arith, c.if-b.true); start_le_end = omega (arith, c.requires.some) }

pub point_cut-requires : goal.point_cut-requires
point_cut-requires c =
    let b = c.silence_bounds-b.result in
    omega (arith, c.split_point.ensures, (split_within b.hi b.lo c.args.start c.args.end (omega (arith, c.requires.some))).1, c.requires.before_sound, c.requires.held)

pub returns-then-b : goal.returns-then-b
returns-then-b c =
    silence_overlaps c.args.gap c.args.placement c.args.p c.args.levels.now c.args.start c.args.end c.silence_bounds-b.result c.silence_bounds-b.ensures c.point_cut.result c.split_point.result c.if-b.true c.split_point.ensures c.point_cut.ensures

pub place-requires : goal.place-requires
place-requires c =
    bounds_placeable c.args.gap c.args.placement c.args.p c.args.levels.now c.args.start c.args.end c.silence_bounds-b.result c.silence_bounds-b.ensures c.if-b.false c.requires

pub point_cut-requires-in-Keep : goal.point_cut-requires-in-Keep
point_cut-requires-in-Keep c =
    let q = bounds_placeable c.args.gap c.args.placement c.args.p c.args.levels.now c.args.start c.args.end c.silence_bounds-b.result c.silence_bounds-b.ensures c.if-b.false c.requires in
    omega (arith, c.place.ensures, (chosen_within c.args.placement c.args.levels.now c.silence_bounds-b.result.lo c.silence_bounds-b.result.hi q).1, q.bounded.held)

pub least_level-requires : goal.least_level-requires
least_level-requires c =
    whole_bounded c.args.gap c.args.placement c.args.p c.args.levels.now c.args.start c.args.end c.requires

pub returns-in-Keep : goal.returns-in-Keep
returns-in-Keep c =
    let g : ◌≡◌ {A = Gap} c.args.gap Keep = cc in
    silence-keeps c.args.gap c.args.placement c.args.p c.args.levels.now c.args.start c.args.end c.silence_bounds-b.result c.silence_bounds-b.ensures c.point_cut-in-Keep.result c.place.result g c.if-b.false c.place.ensures c.point_cut-in-Keep.ensures

pub returns-in-Drop : goal.returns-in-Drop
returns-in-Drop c =
    let g : ◌≡◌ {A = Gap} c.args.gap Drop = cc in
    silence_drops c.args.gap c.args.placement c.args.p c.args.levels.now c.args.start c.args.end c.silence_bounds-b.result c.silence_bounds-b.ensures c.least_level.result g c.if-b.false c.least_level.ensures
