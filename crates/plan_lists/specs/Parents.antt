-- Document 01's 14: "parent list under pieces × candidates of the path being sought by count".
use Rattle.std.specs.Prelude.{Bool, ℕ, ◌-◌, ◌*◌, min, leb}

-- a parent list of this length has an entry for each piece and candidate of a path of min(N, last index) pieces, where N is `count`
unfoldable pub has_parents : ℕ → ℕ → ℕ → Bool
has_parents count candidates parents = leb (min count (candidates - 1) * candidates) parents
