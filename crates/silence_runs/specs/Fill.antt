-- Document 01's "short sound" and "short silence" filled: each maximal run of a kind that is too short becomes the other kind.
-- Filling short sound is an opening, filling short silence a closing. Laws are in FillLaws.
use Rattle.std.specs.Prelude.{ℕ, ◌-◌, cond, List, ltb}
use Rattle.silence_runs.specs.Runs.{each_run}

-- what a run of `kind`, n frames long, becomes: the other kind where it is shorter than min
unfoldable pub filled_as : ℕ → ℕ → ℕ → ℕ
filled_as kind min n = cond (ltb n min) (1 - kind) kind

-- each maximal run of `kind` that is shorter than min is flipped (kind 1 is sound, 0 silence)
unfoldable pub fill_short : ℕ → ℕ → List ℕ → List ℕ
fill_short kind min xs = each_run kind (filled_as kind min) xs
