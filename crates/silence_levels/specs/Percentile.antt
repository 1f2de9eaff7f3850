-- Document 01's "percentiles", as in `Levels::new`: the value at a rounded index of the values in the order of `total_cmp`.
use Rattle.std.specs.Prelude.{List, ℕ, ◌+◌, ◌-◌, ◌*◌, ◌/◌, Float, length, get_or}
use Rattle.std.specs.Float.{nan}
use Rattle.silence_levels.specs.Keys.{key_of}
use Rattle.silence_levels.specs.Sorted.{sorted_by}

-- the index of percentile p among n values, rounded half up
unfoldable pub percentile_index : ℕ → ℕ → ℕ
percentile_index n p = (p * (n - 1) + 50) / 100

-- percentile p of some values, at least one
unfoldable pub percentile_of : List Float → ℕ → Float
percentile_of values p = get_or (sorted_by key_of values) (percentile_index (length values) p) nan
