-- What an answer of Plan says of the lists that hold its output.
use Rattle.std.specs.Prelude.{ℕ, ◌-◌, ◌*◌, ◌≤◌, Ok, Err}
use Rattle.plan_pieces.specs.Answer.{Answer}
use Rattle.job.specs.Limits.{most_frames}

-- a plan lies in lists of these lengths, and has no more pieces than a job can have frames
abbrev pub Roomy : Answer → ℕ → ℕ → Type 0
Roomy (Ok n) pieces cuts = (3 * n ≤ pieces) × (3 * (n - 1) ≤ cuts) × (n ≤ most_frames)
Roomy (Err error) pieces cuts = Unit {0}
