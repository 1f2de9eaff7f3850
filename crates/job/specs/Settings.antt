-- Bits 0 to 6 of the map: the settings of a plan.
use Rattle.std.specs.Prelude.{ℕ, ◌+◌, false, cond, List, ltb, eqb, Result, Ok}
use Rattle.std.specs.Float.{binary64}
use Rattle.std.specs.Float.Ieee.{round}
use Rattle.numbers_in.specs.Numbers.{u32_at, u64_at, f64_at}
use Rattle.path_pieces.specs.declared.mode.Mode.{Mode}
use Rattle.path_pieces.specs.declared.weights.Weights.{Weights}
use Rattle.plan_settings.specs.declared.config.Gap.{Gap}
use Rattle.plan_settings.specs.declared.config.Placement.{Placement}
use Rattle.plan_settings.specs.declared.config.PlanConfig.{PlanConfig}
use Rattle.kinds.specs.Flagged.{gap_of, mode_of}
use Rattle.kinds.specs.Numbered.{placement_of}
use Rattle.job.specs.Fields.{Field, field, ◌>>=◌, stands, u64_field, f32_field, kind_field}
use Rattle.job.specs.declared.answer.Refusal.{Refusal}

-- 3 count: u32, else by length
unfoldable pub mode_at : (job : List ℕ) (map at : ℕ) → Field Mode
mode_at job map at = field (mode_of (stands map 3) (u32_at job at)) (cond (stands map 3) (at + 4) at)

-- 4 gap: 0 keep, 1 drop
unfoldable pub gap_at : (job : List ℕ) (map at : ℕ) → Result (Field Gap) Refusal
gap_at job map at = do
  kind ← kind_field job at (stands map 4) 1
  Ok (field (gap_of (ltb 0 kind.value)) kind.next)

-- 5 placement: 0 quietest, 1 center, 2 ratio with an f32
unfoldable pub placement_at : (job : List ℕ) (map at : ℕ) → Result (Field Placement) Refusal
placement_at job map at = do
  kind ← kind_field job at (stands map 5) 2
  let ratio = f32_field job kind.next (eqb kind.value 2)
  Ok (field (placement_of kind.value ratio.value) ratio.next)

-- cut, level, pause f64, pause reference u64, target, short f64
unfoldable pub weights_in : (job : List ℕ) (at : ℕ) → Weights
weights_in job at =
    record {
      cut = f64_at job at;
      level = f64_at job (at + 8);
      pause = f64_at job (at + 16);
      pause_ref = u64_at job (at + 24);
      target = f64_at job (at + 32);
      short = f64_at job (at + 40);
    }

-- the Rust's `Weights::default` (plan.rs): cut 0.1, level 1, pause 1, pause reference 500 ms, target 1, short 4
unfoldable pub default_weights : Weights
default_weights =
    record {
      cut = round binary64 false 1 10;
      level = round binary64 false 1 1;
      pause = round binary64 false 1 1;
      pause_ref = 500000000;
      target = round binary64 false 1 1;
      short = round binary64 false 4 1;
    }

-- 6 weights
unfoldable pub weights_at : (job : List ℕ) (map at : ℕ) → Field Weights
weights_at job map at = field (cond (stands map 6) (weights_in job at) default_weights) (cond (stands map 6) (at + 48) at)

-- 0 min, 1 target, 2 max: u64, else 5, 15, 30 s; then 3 to 6
unfoldable pub settings_at : (job : List ℕ) (map at : ℕ) → Result (Field PlanConfig) Refusal
settings_at job map at = do
  let least = u64_field job at (stands map 0) 5000000000
  let target = u64_field job least.next (stands map 1) 15000000000
  let most = u64_field job target.next (stands map 2) 30000000000
  let mode = mode_at job map most.next
  gap ← gap_at job map mode.next
  placement ← placement_at job map gap.next
  let weights = weights_at job map placement.next
  Ok (field (record {
    min = least.value;
    target = target.value;
    max = most.value;
    mode = mode.value;
    gap = gap.value;
    placement = placement.value;
    weights = weights.value;
  }) weights.next)
