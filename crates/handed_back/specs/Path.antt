-- What the path over lent candidates hands back beside its number.
use Rattle.std.specs.Prelude.{ℕ, Ok, Err, Float}
use Rattle.path_list.specs.Answer.{Answer}

-- the number of the path's candidates where there is one, and else what stood there
abbrev pub length_after : Answer → ℕ → ℕ
length_after (Ok s) before = s.len
length_after (Err e) before = before

-- its pieces over the limit
abbrev pub over_after : Answer → ℕ → ℕ
over_after (Ok s) before = s.score.over
over_after (Err e) before = before

-- its cost
abbrev pub cost_after : Answer → Float → Float
cost_after (Ok s) before = s.score.cost
cost_after (Err e) before = before
