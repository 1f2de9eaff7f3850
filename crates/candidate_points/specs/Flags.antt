-- Flags in a list of numbers: 1 where a test passes, and else 0.
use Rattle.std.specs.Prelude.{Bool, cond, ℕ}

-- a test as a flag
unfoldable pub flag_of : Bool → ℕ
flag_of b = cond b 1 0
