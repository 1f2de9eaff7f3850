-- What the silence list hands back beside its number.
use Rattle.std.specs.Prelude.{ℕ, Ok, Err}
use Rattle.silence_list.specs.Silences.{Answer}

-- the number of silences where the list was made, and else what stood there
abbrev pub count_after : Answer → ℕ → ℕ
count_after (Ok n) before = n
count_after (Err e) before = before
