-- `place::place`, by the cases of the placement.
use Rattle.std.proofs.Common.{arith}
use mathlib.Core.Path.{◌≡◌}
use Prim.Native.Nat.{◌-◌}
use Rattle.plan_settings.specs.declared.config.Placement.{Placement}
use Rattle.plan_settings.specs.declared.config.Placement.TheVariants.{Quietest, Center, Ratio}
use Rattle.candidate_cuts.specs.Place.{chosen_by}
use Rattle.candidate_cuts.specs.ShareLaws.{share_within}
use Rattle.candidate_cuts.specs.PlaceLaws.{ratio_passes}
use Rattle.candidate_cuts.proofs.place.place.Goals as goal

pub overflow_add-hi : goal.overflow_add-hi
overflow_add-hi c = omega (arith, c.requires.bounded.few)

pub share-requires : goal.share-requires
share-requires c = let ratio = c.in-Ratio.ratio in
    let t : ◌≡◌ {A = Placement} c.args.placement (Ratio ratio) = cc in
    record { ratio_is_score = ratio_passes c.args.placement ratio t c.requires.ratio; frames_le_max_frames = omega (arith, c.requires.bounded.few) }

pub overflow_add-result-in-Ratio : goal.overflow_add-result-in-Ratio
overflow_add-result-in-Ratio c =
    let ratio = c.in-Ratio.ratio in
    let t : ◌≡◌ {A = Placement} c.args.placement (Ratio ratio) = cc in
    let w = share_within ratio (c.args.hi - c.args.lo) (ratio_passes c.args.placement ratio t c.requires.ratio) (omega (arith, c.requires.bounded.few)) in
    omega (arith, w, c.share.ensures, c.requires.bounded.few, c.requires.bounded.order)

pub returns-in-Quietest : goal.returns-in-Quietest
unfolding chosen_by
returns-in-Quietest c =
    let t : ◌≡◌ {A = Placement} c.args.placement Quietest = cc in
    rw t c.quietest.ensures

pub returns-in-Center : goal.returns-in-Center
unfolding chosen_by
returns-in-Center c =
    let t : ◌≡◌ {A = Placement} c.args.placement Center = cc in
    rw t

pub returns-in-Ratio : goal.returns-in-Ratio
unfolding chosen_by
returns-in-Ratio c =
    let t : ◌≡◌ {A = Placement} c.args.placement (Ratio c.in-Ratio.ratio) = cc in
    rw (t, c.share.ensures)
