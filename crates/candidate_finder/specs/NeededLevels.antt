-- The levels of a recording as far as later steps look at them: scores are on their scale already, so their floor and reference do not matter.
use Rattle.std.specs.Prelude.{◌≡◌, refl, List, ℕ, Float}
use Rattle.std.specs.Float.{binary32}
use Rattle.std.specs.Float.Ieee.{of_bits, lt}
use Rattle.base_terms.specs.Floats.{nought}
use Rattle.grid.specs.Values.{is_finite}
use Rattle.grid.specs.declared.validate.Domain.{Domain}
use Rattle.grid.specs.declared.validate.Domain.TheVariants.{Decibels, Scores}
use Rattle.silence_levels.specs.Levels.{levels_of, thresholds_of}
use Rattle.silence_levels.specs.declared.threshold.Threshold.{Threshold}
use Rattle.silence_levels.specs.declared.threshold.Levels.{Levels}
use Rattle.silence_levels.specs.declared.threshold.Thresholds.{Thresholds}
use Rattle.candidate_costs.specs.Normalize.{normalize_of}
use Rattle.candidate_costs.specs.NormalizeLaws.{Scaled}
use Rattle.candidate_costs.specs.Level.{frame_level, boundary_levels}

-- both thresholds, and for decibels floor and reference
unfoldable pub needed_levels : Domain → Levels → Levels
needed_levels Decibels l = l
needed_levels Scores l = record { floor = nought; reference = nought; on = l.on; off = l.off }

-- ---- nothing else is looked at

pub needed_on : (domain : Domain) (l : Levels) → (needed_levels domain l).on ≡ l.on
unfolding needed_levels
needed_on Decibels l = refl
needed_on Scores l = refl

pub needed_off : (domain : Domain) (l : Levels) → (needed_levels domain l).off ≡ l.off
unfolding needed_levels
needed_off Decibels l = refl
needed_off Scores l = refl

pub needed_scaled : (domain : Domain) (l : Levels) → Scaled l → Scaled (needed_levels domain l)
unfolding needed_levels is_finite lt
needed_scaled Decibels l s = s
needed_scaled Scores l s = record { low_end = refl; high_end = refl }

pub needed_levels_lem : (domain : Domain) (l : Levels) (width : ℕ) (values levels : List Float) → boundary_levels domain (needed_levels domain l) width values levels ≡ boundary_levels domain l width values levels
unfolding needed_levels boundary_levels frame_level normalize_of
needed_levels_lem Decibels l width values levels = refl
needed_levels_lem Scores l width values levels = refl

-- ---- what is made of a recording

pub needed_decibels : (domain : Domain) (l r : Levels) → ◌≡◌ {A = Domain} domain Decibels → r ≡ l → r ≡ needed_levels domain l
unfolding needed_levels
needed_decibels domain l r d e = rw d e

pub needed_scores : (domain : Domain) (threshold : Threshold) (values : List Float) (flags : List ℕ) (t : Thresholds) → ◌≡◌ {A = Domain} domain Scores → t ≡ thresholds_of domain threshold values flags
    → ◌≡◌ {A = Levels} (record { floor = of_bits binary32 0; reference = of_bits binary32 0; on = t.on; off = t.off }) (needed_levels domain (levels_of domain threshold values flags))
unfolding needed_levels thresholds_of of_bits
needed_scores domain threshold values flags t d e = rw (e, d)
