-- What the types of a recording's lists say of their elements. The laws on levels and costs ask for it.
use Rattle.std.specs.Prelude.{ℕ, List, T, Float, get_or}
use Rattle.std.specs.Float.{nan, binary32, binary64}
use Rattle.std.specs.Float.Ieee.{fits}

-- each value is an f32, and each level an f64
pub record Fitting (values levels : List Float) : Type 0 where
  pub values_fit : (i : ℕ) → T (fits binary32 (get_or values i nan))
  pub levels_fit : (i : ℕ) → T (fits binary64 (get_or levels i nan))
