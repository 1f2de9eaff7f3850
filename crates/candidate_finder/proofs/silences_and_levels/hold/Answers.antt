-- `silences_and_levels::hold`: the stretches stand behind the silences, which take one number more than frames at most; the levels stand in the other list.
use Rattle.candidate_costs.specs.LevelLaws.{Measured}
use Rattle.candidate_costs.specs.NormalizeLaws.{Scaled}
use Rattle.candidate_finder.specs.CandidatesIn.{recording_levels}
use Rattle.candidate_finder.specs.NeededLevels.{needed_scaled}
use Rattle.candidate_finder.specs.Holds.{holds-all}
use Rattle.std.proofs.Common.{rules}
use Rattle.std.proofs.Common.{arith}
use mathlib.Core.Path.{◌≡◌, sym, subst}
use Prim.Native.Nat.{ℕ}
use lib.ListN.{length}
use Rattle.candidate_finder.proofs.silences_and_levels.hold.Goals as goal

pub fill_levels-requires : goal.fill_levels-requires
fill_levels-requires c = let m = c.requires.measurable in
    let r = c.args.r in
    record { scaled = subst Scaled (sym c.levels_and_silences-found.ensures.levels_value) (needed_scaled r.domain (recording_levels r c.args.segment c.args.readings.now.values.now c.args.readings.now.flags.now) m.scaled); measured = subst (λ (w : ℕ). Measured r.domain w c.args.readings.now.values.now c.args.readings.now.levels.now) (sym c.smoothing_width-width.ensures) m.measured; values_nonzero = c.requires.values_nonzero; values_in_bounds = omega (arith, m.roomf) }

pub returns : goal.returns
returns c =
    let same : length c.levels_and_silences-found.new.list ≡ length c.args.work_u32.now = search rules in
    holds-all c.args.r c.args.segment c.args.readings.now.values.now c.args.readings.now.flags.now c.args.readings.now.levels.now (length c.args.work_u32.now) (length c.args.work_f64.now) c.requires.measurable
    c.levels_and_silences-found.result.silences c.levels_and_silences-found.result.levels c.levels_and_silences-found.new.list c.levels_and_silences-found.ensures.levels_value c.levels_and_silences-found.ensures.silences_value c.levels_and_silences-found.ensures.list_after same _ _ c.smoothing_width-width.result c.args.work_f64.now _ c.runs_at-at.ensures c.quiet_stretches.ensures c.smoothing_width-width.ensures c.fill_levels.ensures
