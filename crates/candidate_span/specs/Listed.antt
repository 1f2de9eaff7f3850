-- A list of silences as it is lent: silence i has its first frame at 2 i, and the frame after its last at 2 i + 1.
use Rattle.std.specs.Prelude.{ℕ, ◌/◌, List, length}
pub use Rattle.silence_runs.specs.Silences.{start_at, end_at}

-- how many silences the list has
abbrev pub silence_count : List ℕ → ℕ
silence_count ss = length ss / 2
