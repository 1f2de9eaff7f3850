-- Steps about floats that proofs of functions cite.
use Rattle.std.specs.Prelude.{◌≡◌, T, Float}
use Rattle.std.proofs.Common.{sym, subst}
use Rattle.std.specs.Float.{nan, inf, fin}
use Rattle.std.specs.Float.Ieee.{ne, is_nan}
use Rattle.std.specs.Float.Ieee.Compare.{differs_from_itself}
use Rattle.base_laws.specs.Tests.{same_test}

-- a program tests for a NaN by `x != x`
pub nan_is : (x : Float) → ne x x ≡ is_nan x
unfolding is_nan ne
nan_is x = same_test (ne x x) (is_nan x) (λ (t : T (ne x x)). subst (λ (y : Float). T (is_nan y)) (sym (differs_from_itself x t)) tt) (back x)
  where
    back : (y : Float) → T (is_nan y) → T (ne y y)
    back nan t = tt
    back (inf s) t = absurd t
    back (fin s m e) t = absurd t
