-- What the candidate list hands back beside its number.
use Rattle.std.specs.Prelude.{ℕ, Ok, Err}
use Rattle.candidate_list.specs.CandidateList.{Answer}

-- the number of candidates where the list was made, and else what stood there
abbrev pub found_after : Answer → ℕ → ℕ
found_after (Ok n) before = n
found_after (Err e) before = before
