-- Document 01's "quietest, the first of equals", of neighbouring boundaries; `levels` has the level at each boundary.
-- `quietest_of` is what contracts cite; QuietestLaws says which boundary it is.
use Rattle.std.specs.Prelude.{ℕ, zero, suc, ◌-◌, cond, List, Float, get_or}
use Rattle.std.specs.Float.{nan}
use Rattle.std.specs.Float.Ieee.{le}

-- the quieter of two boundaries, the first where they are equally quiet
unfoldable pub quieter : List Float → ℕ → ℕ → ℕ
quieter levels b k = cond (le (get_or levels b nan) (get_or levels k nan)) b k

-- the quietest of b and `left` boundaries from k on
unfoldable pub quietest_in : List Float → ℕ → ℕ → ℕ → ℕ
quietest_in levels zero b k = b
quietest_in levels (suc left) b k = quietest_in levels left (quieter levels b k) (suc k)

-- the quietest boundary of from..to, the first of equals
unfoldable pub quietest_of : List Float → ℕ → ℕ → ℕ
quietest_of levels from to = quietest_in levels (to - suc from) from (suc from)
