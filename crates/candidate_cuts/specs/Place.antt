-- Document 01's "placement (.. quietest, .. center, .. ratio ..)", as the Rust's `place` has it: the boundary from lo to hi, both inclusive, that a placement chooses.
-- `chosen_by` is what contracts cite; PlaceLaws says where it lies. `levels` has one level for each frame boundary.
use Rattle.std.specs.Prelude.{◌≡◌, true, List, ℕ, ◌+◌, ◌-◌, ◌/◌, ◌≤◌, ◌<◌, pos, Float, length}
use Rattle.std.specs.Float.{binary64}
use Rattle.std.specs.Float.Ieee.{mul, of_int}
use Rattle.base_terms.specs.Round.{half_away}
use Rattle.grid.specs.Limits.{max_frames}
use Rattle.plan_settings.specs.declared.config.Placement.{Placement}
use Rattle.plan_settings.specs.declared.config.Placement.TheVariants.{Quietest, Center, Ratio}
use Rattle.plan_settings.specs.Tests.{ratio_ok}
use Rattle.candidate_costs.specs.Quietest.{quietest_of}

-- ---- definitions

-- a fraction of so many frames: the f64 product, rounded to the nearest whole number, halves away from zero
unfoldable pub share_of : Float → ℕ → ℕ
share_of ratio frames = half_away (mul binary64 ratio (of_int binary64 (pos frames)))

-- the boundary that the placement chooses
unfoldable pub chosen_by : Placement → List Float → ℕ → ℕ → ℕ
chosen_by Quietest levels lo hi = quietest_of levels lo (hi + 1)
chosen_by Center levels lo hi = (lo + hi) / 2
chosen_by (Ratio ratio) levels lo hi = lo + share_of ratio (hi - lo)

-- ---- what placing asks

-- boundaries in order, each with a level
pub record WithLevels (levels : List Float) (lo hi : ℕ) : Type 0 where
  pub order : lo ≤ hi
  pub held : hi < length levels
  pub few : hi ≤ max_frames

-- boundaries in order, each with a level, and a ratio that test 9 passes
pub record Placeable (placement : Placement) (levels : List Float) (lo hi : ℕ) : Type 0 where
  pub bounded : WithLevels levels lo hi
  pub ratio : ratio_ok placement ≡ true
