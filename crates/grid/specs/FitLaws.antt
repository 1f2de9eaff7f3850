-- What fits in 64 bits: the bounds that each product of the grid uses, and that they hold. A duration times a frame rate does, up to 192,000; times a sample
-- rate it does not, up to 768,000, so that `samples_floor` and `samples_in` go by steps that do, to the same numbers.
use Rattle.std.specs.Prelude.{◌≡◌, ℕ, ◌+◌, ◌-◌, min, ◌*◌, ◌/◌, ◌%◌, ◌^◌, ◌≤◌, ◌<◌, pos, Float}
use Rattle.std.proofs.Common.{sym, ap, ◌∙◌, inl, inr, mod-lt, le_refl, le_trans, add-le-add, add-mul, mul_assoc, mul-le-mul, arith, lit≤}
use Rattle.std.proofs.Math.Nat.{div-add-mod, mul-add-div}
use Rattle.std.specs.Float.{binary64}
use Rattle.std.specs.Float.Ieee.{mul, div, of_int}
use Rattle.std.proofs.lemmas.Nat.{div-mul-add}
use Rattle.base_laws.specs.Nearest.{whole-product}
use Rattle.base_laws.specs.Tests.{lt_or_le}
use Rattle.grid.specs.Limits.{max_rate, max_duration, nanos_per_sec}
use Rattle.grid.specs.Boundary.{Bounded}
use Rattle.grid.specs.Durations.{InFrames, InSamples, frames_num, frames_den, samples_floor, samples_in}
use Rattle.grid.specs.declared.boundary.FrameGrid.{FrameGrid}

-- ---- the products

-- a frame's number × hop × sample rate fits: at most 1,048,577 × 1,048,576 × 768,000
pub start_fits : (g : FrameGrid) → Bounded g → (k : ℕ) → k ≤ g.frames + 1 → k * (g.hop * g.sample_rate) < 2 ^ 64
start_fits g b k h = omega (arith, mul-le-mul (le_trans h (add-le-add b.frames (le_refl 1))) (mul-le-mul b.hop b.rate))

-- duration × frame rate fits, and so does what rounding adds, less than a divisor: at most 24 hours × 192,000, and 1,048,576 seconds
pub frames_fit : (frameRate hop ns : ℕ) → InFrames frameRate hop ns → frames_num frameRate ns + frames_den hop < 2 ^ 64
frames_fit frameRate hop ns p = omega (arith, mul-le-mul p.time p.rate, p.most)

-- duration × sample rate need not: 24 hours × 768,000
samples_far : 2 ^ 64 ≤ max_duration * max_rate
samples_far = lit≤ tt

-- whole seconds × sample rate and the rest × sample rate fit, both together
pub samples_fit : (rate ns : ℕ) → InSamples rate ns → ns / nanos_per_sec * rate + ns % nanos_per_sec * rate < 2 ^ 64
samples_fit rate ns p =
    let seconds : ns / nanos_per_sec * rate ≤ 86400 * max_rate = mul-le-mul (whole ns p.time) p.rate in
    let rest : ns % nanos_per_sec * rate ≤ nanos_per_sec * max_rate = mul-le-mul (part ns) p.rate in
    omega arith
  where
    whole : (n : ℕ) → n ≤ max_duration → n / nanos_per_sec ≤ 86400
    whole n h = omega arith

    part : (n : ℕ) → n % nanos_per_sec ≤ nanos_per_sec
    part n = omega arith

-- ---- a quotient rounded up

-- what is left over counts as one more: so does all but one of the divisor, added first
pub rounded_up : (n d : ℕ) → 0 < d → n / d + min 1 (n % d) ≡ (n + (d - 1)) / d
rounded_up n d D =
    let whole : n + (d - 1) ≡ d * (n / d) + (n % d + (d - 1)) = omega (arith, div-add-mod n d) in
    sym (ap (λ (k : ℕ). k / d) whole ∙ mul-add-div D (n / d) (n % d + (d - 1)) ∙ ap (λ (k : ℕ). n / d + k) (one (n % d) (mod-lt n D)))
  where
    one : (r : ℕ) → r < d → (r + (d - 1)) / d ≡ min 1 r
    one r h = elim (lt_or_le 0 r) [
      | inl l ↦ let e : r + (d - 1) ≡ 1 * d + (r - 1) = omega (arith, l, D) in let m : min 1 r ≡ 1 = omega (arith, l) in rw (e, m) (div-mul-add 1 d (r - 1) (omega (arith, h)))
      | inr l ↦ let e : r + (d - 1) ≡ 0 * d + (d - 1) = omega (arith, l, D) in let m : min 1 r ≡ 0 = omega (arith, l) in rw (e, m) (div-mul-add 0 d (d - 1) (omega (arith, D)))
    ]

-- ---- samples by steps that fit

-- a product's quotient, by the quotient and the rest of one factor
by_parts : (n m : ℕ) {d : ℕ} → 0 < d → n / d * m + n % d * m / d ≡ n * m / d
by_parts n m {d} D =
    let split : n * m ≡ d * (n / d * m) + n % d * m =
    ap (λ (k : ℕ). k * m) (sym (div-add-mod n d)) ∙ add-mul (d * (n / d)) (n % d) m ∙ ap (λ (k : ℕ). k + n % d * m) (mul_assoc d (n / d) m) in
    sym (ap (λ (k : ℕ). k / d) split ∙ mul-add-div D (n / d * m) (n % d * m))

-- the samples of the whole seconds and those of the rest, rounded down, are those of the duration, rounded down
pub samples_by_parts : (rate ns : ℕ) → ns / nanos_per_sec * rate + ns % nanos_per_sec * rate / nanos_per_sec ≡ samples_floor rate ns
unfolding samples_floor
samples_by_parts rate ns = by_parts ns rate (lit≤ tt)

-- duration and rate are exact as floats, so that their product as floats is the whole product, rounded once
pub samples_once : (rate ns : ℕ) → InSamples rate ns
    → div binary64 (mul binary64 (of_int binary64 (pos ns)) (of_int binary64 (pos rate))) (of_int binary64 (pos nanos_per_sec)) ≡ samples_in rate ns
unfolding samples_in
samples_once rate ns p =
    ap (λ (x : Float). div binary64 x (of_int binary64 (pos nanos_per_sec)))
    (whole-product binary64 ns rate (le_trans p.time (lit≤ tt)) (le_trans p.rate (lit≤ tt)))
