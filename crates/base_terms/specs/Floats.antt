-- Zero, the domain of the costs, the size of a value, and Rust's functions on two floats.
use Rattle.std.specs.Prelude.{Bool, false, ◌||◌, cond, pos, Float}
use Rattle.std.specs.Float.{nan, inf, fin}
use Rattle.std.specs.Float.Ieee.{lt, le, is_nan}

-- the zero of a program's `0.0`
abbrev pub nought : Float
nought = fin false 0 (pos 0)

-- not NaN, and not below zero: -0 and +inf included
abbrev pub nonneg : Float → Bool
nonneg x = le nought x

-- without its sign: Rust's f64::abs
abbrev pub abs_of : Float → Float
abs_of nan = nan
abs_of (inf s) = inf false
abs_of (fin s m e) = fin false m e

-- the smaller, the first of equals; a NaN gives way to the other: Rust's f64::min
unfoldable pub min_of : Float → Float → Float
min_of x y = cond (le x y || is_nan y) x y

-- the larger, the first of equals; a NaN gives way to the other: Rust's f64::max
unfoldable pub max_of : Float → Float → Float
max_of x y = cond (le y x || is_nan y) x y

-- raised to lo where it is below, then lowered to hi where that is above: Rust's f64::clamp
unfoldable pub clamp_of : Float → Float → Float → Float
clamp_of x lo hi = let y = cond (lt x lo) lo x in cond (lt hi y) hi y
