-- What Plan hands back beside its number.
use Rattle.std.specs.Prelude.{ℕ, Ok, Err}
use Rattle.plan_pieces.specs.Answer.{Answer}

-- the number of pieces where the plan was made, and else what stood there
abbrev pub pieces_after : Answer → ℕ → ℕ
pieces_after (Ok n) before = n
pieces_after (Err e) before = before
