-- A placement chooses a boundary within its bounds.
use Rattle.std.specs.Prelude.{◌≡◌, true, List, ℕ, ◌+◌, ◌-◌, ◌≤◌, Float}
use Rattle.std.proofs.Common.{arith}
use Rattle.grid.specs.Values.{is_score}
use Rattle.plan_settings.specs.declared.config.Placement.{Placement}
use Rattle.plan_settings.specs.declared.config.Placement.TheVariants.{Quietest, Center, Ratio}
use Rattle.plan_settings.specs.Tests.{ratio_ok}
use Rattle.candidate_costs.specs.QuietestLaws.{quietest_within}
use Rattle.candidate_cuts.specs.Place.{chosen_by, Placeable}
use Rattle.candidate_cuts.specs.ShareLaws.{share_within}

-- the ratio of a placement that test 9 passes is a number from 0 to 1
pub ratio_passes : (placement : Placement) (ratio : Float) → placement ≡ Ratio ratio → ratio_ok placement ≡ true → is_score ratio ≡ true
unfolding ratio_ok
ratio_passes placement ratio e h = rw e at h

-- the boundary that is chosen lies within the bounds
pub chosen_within : (placement : Placement) (levels : List Float) (lo hi : ℕ) → Placeable placement levels lo hi
    → (lo ≤ chosen_by placement levels lo hi) × (chosen_by placement levels lo hi ≤ hi)
unfolding chosen_by ratio_ok
chosen_within Quietest levels lo hi p = let w = quietest_within levels lo (hi + 1) (omega (arith, p.bounded.order)) in (w.0, omega (arith, w.1))
chosen_within Center levels lo hi p = (omega (arith, p.bounded.order), omega (arith, p.bounded.order))
chosen_within (Ratio ratio) levels lo hi p =
    let s = share_within ratio (hi - lo) p.ratio (omega (arith, p.bounded.few)) in
    (omega arith, omega (arith, s, p.bounded.order))
