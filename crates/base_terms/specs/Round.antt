-- Rounding to a whole number, halves away from zero, of values that are not negative.
-- A double is exact, so floor(x + 1/2) = floor((floor(2x) + 1) / 2) is worked out without rounding, for any value; that the ratio's product is exact plays no part.
use Rattle.std.specs.Prelude.{ℕ, ◌+◌, ◌*◌, ◌/◌, Float}
use Rattle.std.specs.Float.{nan, inf, fin}
use Rattle.std.specs.Float.Ieee.{up, down}

-- the nearest whole number of the exact value, the greater of two as near (Rust's `round`); 0 for what is no finite value
unfoldable pub half_away : Float → ℕ
half_away nan = 0
half_away (inf s) = 0
half_away (fin s m e) = (m * up e * 2 + down e) / (down e * 2)
