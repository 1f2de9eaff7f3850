-- A ratio of at most 1 makes a product of at most the width, because rounding is monotone and the width is exact; so the share is at most the width.
use Rattle.std.specs.Prelude.{◌≡◌, refl, not, ℕ, suc, ◌+◌, ◌*◌, ◌/◌, ◌≤◌, ◌<◌, pos, Float}
use Rattle.std.proofs.Common.{sym, ap, ◌∙◌, add-zero, le_refl, le_trans, le_of_suc-le-suc, suc-mul, mul_assoc, one-mul, div-lt_iff_lt-mul, arith, lit≤, pow_pos}
use Rattle.std.proofs.Math.Path.{subst}
use Rattle.std.proofs.Math.Bool.{true, false}
use Rattle.std.proofs.Math.Nat.{mul-one}
use Rattle.std.proofs.Math.Dec.{T}
use Rattle.std.specs.Float.{nan, inf, fin, Format}
use Rattle.std.specs.Float.Ieee.{binary64, up, down, round, mul, lt, le, is_nan, of_int}
use Rattle.std.specs.Float.Ieee.Fits.{down_pos}
use Rattle.std.specs.Float.Ieee.Exact.{HasValue}
use Rattle.std.specs.Float.Ieee.Scale.{finite}
use Rattle.base_laws.specs.Tests.{holds, both}
use Rattle.base_laws.specs.Compare.{Le, le→Le, Le→le}
use Rattle.base_laws.specs.Rounding.{Le-of_values, finite_of_value}
use Rattle.base_laws.specs.Order.{float_le_refl, float_le_trans, float_le-lt_trans}
use Rattle.base_terms.specs.Floats.{nought, nonneg}
use Rattle.base_laws.specs.Nonneg.{nonneg-number, finite_number}
use Rattle.base_laws.specs.Products.{float_mul-number, float_mul_mono, float_mul-nonneg}
use Rattle.base_laws.specs.Nearest.{float_mul_is}
use Rattle.base_laws.specs.Whole.{whole-nonneg, whole_exact, whole-within}
use Rattle.base_terms.specs.Round.{half_away}
use Rattle.grid.specs.Limits.{max_frames}
use Rattle.grid.specs.Values.{is_score}
use Rattle.grid.specs.ValuesLaws.{score_finite, value_finite}
use Rattle.candidate_cuts.specs.Place.{share_of}

-- the float that is a whole number
abbrev whole_float : ℕ → Float
whole_float n = fin false n (pos 0)

-- what is at most a whole number is rounded to at most it
half_cross : (m b n : ℕ) → 0 < b → m ≤ n * b → (m * 2 + b) / (b * 2) ≤ n
half_cross m b n B h =
    let scaled : (i j : ℕ) → suc i * (j * 2) ≡ i * j * 2 + j * 2 = λ i j. suc-mul i (j * 2) ∙ ap (λ (t : ℕ). t + j * 2) (sym (mul_assoc i j 2)) in
    let less : (p : ℕ) → suc n * (b * 2) ≡ p * 2 + b * 2 → m ≤ p → m * 2 + b < suc n * (b * 2) = λ p e l. rw e (omega arith) in
    le_of_suc-le-suc ((div-lt_iff_lt-mul (omega arith)).1 (less (n * b) (scaled n b) h))

half_within : (x : Float) (n : ℕ) → T (nonneg x) → T (le x (whole_float n)) → half_away x ≤ n
half_within x n p h = go x (le→Le nought x p) (le→Le x (whole_float n) h)
  where
    go : (y : Float) → Le nought y → Le y (whole_float n) → half_away y ≤ n
    go nan q k = absurd q
    go (inf s) q k = unfold half_away in (omega arith)
    go (fin false m e) q k = unfold half_away in (half_cross (m * up e) (down e) n (down_pos e) (simp (mul-one, add-zero) at k))
    go (fin true m e) q k = unfold half_away in (half_cross (m * up e) (down e) n (down_pos e) (omega arith))

-- a whole number times one is itself
one_times : (f : Format) (w : Float) (a : ℕ) → HasValue w false a 1 → mul f (fin false 1 (pos 0)) w ≡ round f false a 1
one_times f w a h = float_mul_is f (fin false 1 (pos 0)) w 1 1 a 1 (pow_pos 0) (pow_pos 0) (refl, refl) h ∙ rw (one-mul a)

module _ (ratio : Float) (frames : ℕ) (within : is_score ratio ≡ true) (few : frames ≤ max_frames) where
  abbrev product : Float
  product = mul binary64 ratio (of_int binary64 (pos frames))

  ratio_ends : T (nonneg ratio) × T (le ratio (fin false 1 (pos 0)))
  unfolding is_score
  ratio_ends = let p = both (le (fin false 0 (pos 0)) ratio) (le ratio (fin false 1 (pos 0))) within in (holds p.0, holds p.1)

  -- a ratio is a number
  pub ratio_number : T (not (is_nan ratio))
  ratio_number = nonneg-number ratio ratio_ends.0

  width_value : HasValue (of_int binary64 (pos frames)) false frames 1
  width_value = whole_exact binary64 frames (le_trans few (lit≤ tt))

  width_finite : T (finite (of_int binary64 (pos frames)))
  width_finite = finite_of_value (of_int binary64 (pos frames)) false frames 1 width_value

  product-number : T (not (is_nan product))
  product-number = float_mul-number binary64 ratio (of_int binary64 (pos frames)) (value_finite ratio (score_finite ratio within)) width_finite

  -- the product is not negative
  pub product-nonneg : T (nonneg product)
  product-nonneg = float_mul-nonneg binary64 ratio (of_int binary64 (pos frames)) ratio_ends.0 (whole-nonneg binary64 frames) product-number

  -- and at most the width
  product-within : T (le product (of_int binary64 (pos frames)))
  unfolding of_int
  product-within =
      subst (λ (y : Float). T (le product y)) (one_times binary64 (of_int binary64 (pos frames)) frames width_value)
      (float_mul_mono binary64 ratio (fin false 1 (pos 0)) (of_int binary64 (pos frames)) (of_int binary64 (pos frames)) ratio_ends.0 (whole-nonneg binary64 frames) ratio_ends.1
      (float_le_refl (of_int binary64 (pos frames)) (finite_number (of_int binary64 (pos frames)) width_finite)) product-number
      (float_mul-number binary64 (fin false 1 (pos 0)) (of_int binary64 (pos frames)) tt width_finite))

  -- so it is far below 2 ^ 52
  pub product_small : T (lt product (fin false 1 (pos 52)))
  product_small =
      float_le-lt_trans product (fin false 1 (pos 20)) (fin false 1 (pos 52))
      (float_le_trans product (of_int binary64 (pos frames)) (fin false 1 (pos 20)) product-within (whole-within binary64 frames 20 few (lit≤ tt))) (unfold lt in tt)

  -- and rounded it is at most the width
  pub share_within : share_of ratio frames ≤ frames
  unfolding share_of
  share_within =
      half_within product frames product-nonneg
      (float_le_trans product (of_int binary64 (pos frames)) (whole_float frames) product-within
      (Le→le (of_int binary64 (pos frames)) (whole_float frames)
      (Le-of_values (of_int binary64 (pos frames)) false frames 1 (whole_float frames) false frames 1 (pow_pos 0) (pow_pos 0) width_value (refl, mul-one (frames * 1)) (le_refl (frames * 1 + 0)))))
