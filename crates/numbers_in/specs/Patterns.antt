-- Bit patterns of floats.
use Rattle.std.specs.Prelude.{◌≡◌, refl, Bool, true, not, ℕ, ◌*◌, ◌%◌, ◌≤◌, ◌<◌, T, Float}
use Rattle.std.proofs.Common.{sym, subst, ◌∙◌, le-ltb, lt-ltb}
use Rattle.std.specs.Float.{Format, nan, inf, fin}
use Rattle.std.specs.Float.Ieee.{top, ones, hid, nan_bits, of_bits, is_nan}
use Rattle.std.specs.Float.Ieee.Bits.{nan_bits_above, nan_bits_is}

-- But for its sign a pattern up to the infinity's is no NaN's.
pub no_nan : (f : Format) (n : ℕ) → n % top f ≤ ones f * hid f → T (not (nan_bits f n))
no_nan f n h = subst (λ (b : Bool). T (not b)) (sym (nan_bits_above f n ∙ le-ltb _ _ h)) tt

-- One above it is.
pub nan_pattern : (f : Format) (n : ℕ) → ones f * hid f < n % top f → nan ≡ of_bits f n
unfolding is_nan
nan_pattern f n h = go (of_bits f n) (sym (nan_bits_is f n) ∙ nan_bits_above f n ∙ lt-ltb _ _ h)
  where
    go : (x : Float) → is_nan x ≡ true → nan ≡ x
    go nan e = refl
    go (inf s) e = absurd (subst T (sym e) tt)
    go (fin s m p) e = absurd (subst T (sym e) tt)
