-- The stretch at a boundary by its frames: of the only one at either end, and of the longer one between.
use Rattle.std.specs.Prelude.{◌≡◌, true, false, not, List, [], ◌∷◌, ℤ, pos, eqb, Float, length, get_or}
use Rattle.std.proofs.Common.{sym, ap, subst, ◌∙◌, true≢false, not-suc-le-zero, le_refl, le_trans, le_of_lt, mul-pos, mul-one, one-mul, zero-mul, mul_assoc, mul_comm, mul-le-mul, mul-le-mul_right, arith, lit≤, ne_eqb, pow_pos}
use Prim.Native.Nat.{ℕ, zero, suc, ◌-◌, ◌*◌, ◌^◌, ◌≤◌, ◌<◌, max}
use Rattle.std.proofs.Math.Dec.{T}
use Rattle.std.specs.Float.{nan, inf, fin}
use Rattle.std.specs.Float.Ieee.{binary64, up, down, mul, div, of_int, round, le, is_nan}
use Rattle.std.specs.Float.Ieee.Fits.{up_pos, down_pos}
use Rattle.std.specs.Float.Ieee.Exact.{HasValue}
use Rattle.std.specs.Float.Ieee.Order.{round_mono}
use Rattle.std.specs.Float.Ieee.Scale.{finite}
use Rattle.std.specs.Float.Ieee.Positive.{positive_of_value}
use Rattle.base_laws.specs.Order.{float_le_trans}
use Rattle.base_terms.specs.Floats.{nought, nonneg}
use Rattle.base_laws.specs.Nonneg.{finite_between}
use Rattle.base_laws.specs.Products.{float_mul-number, float_mul_mono, float_mul-nonneg}
use Rattle.base_laws.specs.Quotients.{float_div-nonneg}
use Rattle.base_laws.specs.Whole.{whole_exact, whole_mono, whole-nonneg, whole_finite}
use Rattle.grid.specs.Limits.{max_frame_rate, max_hop}
use Rattle.grid.specs.Durations.{frame_secs_of}
use Rattle.candidate_costs.specs.WindowLaws.{around_first, around_inner, around_last, one_back}
use Rattle.candidate_costs.specs.Stretch.{most_of, stretch_at, secs_of}

abbrev float : ℕ → Float
float n = of_int binary64 (pos n)

most_one : (x : ℕ) → x ≡ most_of (x ∷ [])
unfolding most_of
most_one x = omega arith

most_two : (x y : ℕ) → max x y ≡ most_of (x ∷ (y ∷ []))
unfolding most_of
most_two x y = omega arith

module _ (runs : List ℕ) where
  -- at the first boundary it is that of the first frame
  pub stretch_first : 0 < length runs → get_or runs 0 0 ≡ stretch_at runs 0
  unfolding stretch_at
  stretch_first h = rw (around_first runs 0 h) (most_one (get_or runs 0 0))

  -- between two frames it is the longer of theirs
  pub stretch_inner : (k : ℕ) → 0 < k → k < length runs → max (get_or runs (k - 1) 0) (get_or runs k 0) ≡ stretch_at runs k
  unfolding stretch_at
  stretch_inner zero s h = absurd (omega arith)
  stretch_inner (suc k) s h = rw (around_inner runs k 0 h, one_back k) (most_two (get_or runs k 0) (get_or runs (suc k) 0))

  -- at the last boundary it is that of the last frame
  pub stretch_last : (k : ℕ) → 0 < k → k ≡ length runs → get_or runs (k - 1) 0 ≡ stretch_at runs k
  unfolding stretch_at
  stretch_last zero s h = absurd (omega arith)
  stretch_last (suc k) s h = rw (around_last runs k 0 h, one_back k) (most_one (get_or runs k 0))

-- ---- in seconds

divided : (m : ℕ) (e : ℤ) (n : ℕ) (d : ℤ) → 0 < n → div binary64 (fin false m e) (fin false n d) ≡ round binary64 false (m * up e * down d) (n * up d * down e)
unfolding div
divided m e n d N =
    let apart : (i : ℕ) → 0 < i → i ≡ 0 → ⊥ = λ i l e. omega arith in
    let z : eqb n 0 ≡ false = ne_eqb n 0 (apart n N) in rw z

-- a quotient of whole numbers is at most the dividend
quotient_most : (a b : ℕ) → a ≤ 2 ^ 53 → 0 < b → b ≤ 2 ^ 53 → T (le (div binary64 (float a) (float b)) (float a))
quotient_most a b h B k = go (float a) (float b) (whole_exact binary64 a h) (whole_exact binary64 b k)
  where
    less : (M N E D : ℕ) → M * 1 ≡ a * E → N * 1 ≡ b * D → M * D * 1 ≤ a * (N * E)
    less M N E D p q =
        let m : M ≡ a * E = sym (mul-one M) ∙ p in
        let n : N ≡ b * D = sym (mul-one N) ∙ q in
        let l : M * D * 1 ≡ a * (1 * D * E) = rw (m, mul-one, one-mul) (mul_assoc a E D ∙ ap (λ (i : ℕ). a * i) (mul_comm E D)) in
        rw (l, n) (mul-le-mul (le_refl a) (mul-le-mul_right E (mul-le-mul_right D B)))

    some : (n u d : ℕ) → 0 < d → n * u * 1 ≡ b * d → 0 < n
    some zero u d D e = let z : 0 < b * d = mul-pos B D in absurd (not-suc-le-zero (subst (λ (i : ℕ). 0 < i) (sym e ∙ mul-one (0 * u) ∙ zero-mul u) z))
    some (suc n) u d D e = omega arith

    go : (x y : Float) → HasValue x false a 1 → HasValue y false b 1 → T (le (div binary64 x y) (float a))
    go nan y p q = absurd p
    go (inf s) y p q = absurd p
    go (fin true m e) y p q = absurd (true≢false p.0)
    go (fin false m e) nan p q = absurd q
    go (fin false m e) (inf t) p q = absurd q
    go (fin false m e) (fin true n d) p q = absurd (true≢false q.0)
    go (fin false m e) (fin false n d) p q =
        let N : 0 < n = some n (up d) (down d) (down_pos d) q.1 in
        rw (divided m e n d N)
        (unfold of_int in round_mono binary64 (m * up e * down d) (n * up d * down e) a 1 (mul-pos (mul-pos N (up_pos d)) (down_pos e)) (pow_pos 0)
        (less (m * up e) (n * up d) (down e) (down d) p.1 q.1))

-- a frame lasts a finite time
module _ (frameRate hop : ℕ) (R : 0 < frameRate) (r : frameRate ≤ max_frame_rate) (h : hop ≤ max_hop) where
  frame_nonneg : T (nonneg (frame_secs_of frameRate hop))
  unfolding frame_secs_of
  frame_nonneg = float_div-nonneg binary64 (float hop) (float frameRate)
      (positive_of_value (float frameRate) frameRate 1 (whole_exact binary64 frameRate (le_trans r (lit≤ tt))) R) (whole-nonneg binary64 hop)

  frame_most : T (le (frame_secs_of frameRate hop) (float max_hop))
  unfolding frame_secs_of
  frame_most =
      float_le_trans (div binary64 (float hop) (float frameRate)) (float hop) (float max_hop)
      (quotient_most hop frameRate (le_trans h (lit≤ tt)) R (le_trans r (lit≤ tt))) (whole_mono binary64 hop max_hop h)

  -- so as many frames as a u32 counts last a finite time that is not negative
  pub secs_fine : (frames : ℕ) → frames < 4294967296 → T (nonneg (secs_of (frame_secs_of frameRate hop) frames)) × T (finite (secs_of (frame_secs_of frameRate hop) frames))
  unfolding secs_of of_int round mul
  secs_fine frames l =
      let x = float frames in
      let y = frame_secs_of frameRate hop in
      let fy : T (finite y) = finite_between nought y (float max_hop) tt tt frame_nonneg frame_most in
      let fx : T (finite x) = whole_finite binary64 frames (le_trans (le_of_lt l) (lit≤ tt)) in
      let n : T (not (is_nan (mul binary64 x y))) = float_mul-number binary64 x y fx fy in
      let p : T (nonneg (mul binary64 x y)) = float_mul-nonneg binary64 x y (whole-nonneg binary64 frames) frame_nonneg n in (
        p,
        finite_between nought (mul binary64 x y) (mul binary64 (float 4294967296) (float max_hop)) tt tt p
            (float_mul_mono binary64 x (float 4294967296) y (float max_hop) (whole-nonneg binary64 frames) frame_nonneg
            (whole_mono binary64 frames 4294967296 (le_of_lt l)) frame_most n (float_mul-number binary64 (float 4294967296) (float max_hop) tt tt)),
      )
