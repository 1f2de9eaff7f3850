-- Windows hold their own frame, sums grow from the left, and the mean of values that are not negative is not negative.
use Rattle.std.specs.Prelude.{◌≡◌, Bool, true, pos, T, Float, get_or, take, drop}
use Rattle.std.proofs.Math.Path.{refl}
use Rattle.std.proofs.Common.{sym, ap, subst, ◌∙◌, not-suc-le-zero, div-lt_iff_lt-mul, add-one, arith, length-take, length-take-le, length-drop, drop-cons, get_or-take, get_or-drop}
use Rattle.std.proofs.Math.Bool.{false}
use mathlib.Core.List.{List, [], ◌∷◌}
use Prim.Native.Nat.{ℕ, zero, suc, ◌+◌, ◌-◌, ◌*◌, ◌/◌, ◌^◌, ◌≤◌, ◌<◌, min}
use Rattle.std.specs.Float.Ieee.{nan, add, div, of_int, le}
use Rattle.std.specs.Float.{fin, binary64}
use Rattle.std.specs.Float.Ieee.Positive.{positive_of_value}
use Rattle.std.proofs.Math.ListN.{length}
use Rattle.std.proofs.Math.Seq.{drop-length}
use Rattle.base_laws.specs.Tests.{holds, both}
use Rattle.base_terms.specs.Floats.{nought, nonneg}
use Rattle.base_laws.specs.Nonneg.{nought-nonneg}
use Rattle.base_laws.specs.Sums.{float_add-nonneg}
use Rattle.base_laws.specs.Quotients.{float_div-nonneg}
use Rattle.base_laws.specs.Whole.{whole_exact}
use Rattle.base_terms.specs.Lists.{all_of}
use Rattle.base_code.specs.Elements.{all_parts, all-at}
use Rattle.grid.specs.Limits.{max_frames}
use Rattle.grid.specs.Durations.{InFrames, frames_den, frames_ceil}
use Rattle.grid.specs.Values.{is_finite, is_score}
use Rattle.candidate_costs.specs.Window.{part_of, clipped, half_of, window_of, smoothing, width_of, max_width, sum_from, sum_of, mean_of}

-- ---- parts

-- the number before the one after k is k
pub one_back : (k : ℕ) → suc k - 1 ≡ k
one_back k = omega arith

module _ {A : Type 0} where
  -- what every element passes, every element of a part passes
  all_drop : (p : A → Bool) (n : ℕ) (xs : List A) → all_of p xs ≡ true → all_of p (drop n xs) ≡ true
  all_drop p zero xs e = e
  all_drop p (suc n) [] e = e
  all_drop p (suc n) (x ∷ xs) e = all_drop p n xs (all_parts p x xs e).1

  all_take : (p : A → Bool) (n : ℕ) (xs : List A) → all_of p xs ≡ true → all_of p (take n xs) ≡ true
  unfolding all_of
  all_take p zero xs e = refl
  all_take p (suc n) [] e = refl
  all_take p (suc n) (x ∷ xs) e = let a = all_parts p x xs e in rw (a.0, all_take p n xs a.1)

  -- what every element passes, every element of a part passes
  pub all_part : (p : A → Bool) (from to : ℕ) (xs : List A) → all_of p xs ≡ true → all_of p (part_of from to xs) ≡ true
  all_part p from to xs e = all_take p (to - from) (drop from xs) (all_drop p from xs e)

  -- a part has as many elements as lie between its ends
  pub part_length : (from to : ℕ) (xs : List A) → to ≤ length xs → length (part_of from to xs) ≡ to - from
  part_length from to xs h = simp (length-take, length-drop) (omega arith)

  -- the parts around a boundary: one element at either end, and two between

  one : (xs : List A) (from to : ℕ) (z : A) → from < length xs → to - from ≡ 1 → part_of from to xs ≡ get_or xs from z ∷ []
  one xs from to z h e = rw (e, drop-cons xs from z h)

  two : (xs : List A) (from to : ℕ) (z : A) → suc from < length xs → to - from ≡ 2 → part_of from to xs ≡ get_or xs from z ∷ (get_or xs (suc from) z ∷ [])
  two xs from to z h e = rw (e, drop-cons xs from z (omega arith), drop-cons xs (suc from) z h)

  -- at the first boundary there is one element, the first
  pub around_first : (xs : List A) (z : A) → 0 < length xs → clipped 1 1 xs 0 ≡ get_or xs 0 z ∷ []
  unfolding clipped
  around_first xs z h = one xs (0 - 1) (min (0 + 1) (length xs)) z (omega arith) (omega arith)

  -- between two elements there are both
  pub around_inner : (xs : List A) (k : ℕ) (z : A) → suc k < length xs → clipped 1 1 xs (suc k) ≡ get_or xs k z ∷ (get_or xs (suc k) z ∷ [])
  unfolding clipped
  around_inner xs k z h = rw (one_back k) (two xs k (min (suc k + 1) (length xs)) z h (omega arith))

  -- at the last boundary there is one, the last
  pub around_last : (xs : List A) (k : ℕ) (z : A) → suc k ≡ length xs → clipped 1 1 xs (suc k) ≡ get_or xs k z ∷ []
  unfolding clipped
  around_last xs k z h = rw (one_back k) (one xs k (min (suc k + 1) (length xs)) z (omega arith) (omega arith))

-- ---- windows

-- what the windows of a list need: a width that is one at least and no more than the widest, and finite values
pub record Windowed (width : ℕ) (values : List Float) : Type 0 where
  pub some : 0 < width
  pub narrow : width ≤ max_width
  pub few : length values ≤ max_frames
  pub bounded : all_of is_finite values ≡ true

-- a window holds a frame at least: its own
window_some : (width i n : ℕ) → 0 < width → i < n → i - half_of width < min (i + (width - half_of width)) n
window_some width i n h l = omega arith

-- any part with a value may be summed
pub part_sums : (width : ℕ) (values : List Float) (from to : ℕ) → Windowed width values → from < to → to ≤ length values
    → (0 < length (part_of from to values)) × (all_of is_finite (part_of from to values) ≡ true)
part_sums width values from to ok h l = (rw (part_length from to values l) (omega arith), all_part is_finite from to values ok.bounded)

-- the sum of a window over its length is its mean
pub window_mean : (width : ℕ) (values : List Float) (i from to : ℕ) → from ≡ i - half_of width → to ≡ min (i + (width - half_of width)) (length values)
    → (total : Float) → total ≡ sum_of (part_of from to values) → div binary64 total (of_int binary64 (pos (to - from))) ≡ mean_of (window_of width values i)
unfolding mean_of window_of clipped
window_mean width values i from to a b total e = rw (← a, ← b, part_length from to values (omega (arith, b)), e)

-- the smoothing width is one at least
pub width_some : (frameRate hop : ℕ) → 0 < width_of frameRate hop
unfolding width_of
width_some frameRate hop = omega arith

-- and no wider than the widest
pub width_narrow : (frameRate hop : ℕ) → InFrames frameRate hop smoothing → width_of frameRate hop ≤ max_width
unfolding width_of frames_ceil
width_narrow frameRate hop w =
    let p : smoothing * frameRate ≤ 28800000000000 = omega (arith, w.rate) in
    let q : (smoothing * frameRate + (frames_den hop - 1)) / frames_den hop < suc max_width =
    (div-lt_iff_lt-mul {k = frames_den hop} {x = smoothing * frameRate + (frames_den hop - 1)} {y = suc max_width} (omega (arith, w.step))).1 (omega (arith, p, w.step)) in
    omega (arith, q)

-- ---- sums

-- what holds while the first i values of a part are summed
pub record Summing (part : List Float) (total : Float) (i : ℕ) : Type 0 where
  pub within : i ≤ length part
  pub left : sum_from total (drop i part) ≡ sum_of part

-- the sum starts with the first value
pub summing_start : (part : List Float) → 0 < length part → Summing part (get_or part 0 nan) 1
unfolding sum_of
summing_start [] h = absurd (not-suc-le-zero h)
summing_start (x ∷ xs) h = record { within = omega arith; left = refl }

-- the values after the first
abbrev pub later : List Float → List Float
later part = take (length part - 1) (drop 1 part)

-- are one fewer
later-length : (part : List Float) → length (later part) ≡ length part - 1
later-length part = length-take-le (length part - 1) (drop 1 part) (omega (arith, length-drop 1 part))

-- and stand one place on
pub later_value : (part : List Float) (i : ℕ) → i < length (later part) → get_or (later part) i nan ≡ get_or part (i + 1) nan
later_value part i h =
    get_or-take (length part - 1) (drop 1 part) i nan (omega (arith, later-length part)) ∙ get_or-drop 1 part i nan ∙ ap (λ (k : ℕ). get_or part k nan) (omega arith)

-- so each is finite where all values are
pub later_finite : (part : List Float) (i : ℕ) → i < length (later part) → all_of is_finite part ≡ true → is_finite (get_or (later part) i nan) ≡ true
later_finite part i h f = rw (later_value part i h) (all-at is_finite part (i + 1) nan (omega (arith, later-length part)) f)

-- a value more is added
pub summing_next : (part : List Float) (total : Float) (i : ℕ) → i < length (later part) → Summing part total (i + 1)
    → Summing part (add binary64 total (get_or (later part) i nan)) (i + 1 + 1)
unfolding sum_from
summing_next part total i l w =
    let inside : i + 1 < length part = omega (arith, later-length part) in
    rw (later_value part i l)
    (search (arith, add-one, ap (sum_from total) (sym (drop-cons part (i + 1) nan inside)) ∙ w.left))

-- after the last one it is the sum of the part
pub summing_done : (part : List Float) (total : Float) (i : ℕ) → 0 < length part → length (later part) ≤ i → Summing part total (i + 1) → total ≡ sum_of part
unfolding sum_from
summing_done part total i s l w =
    let e : i + 1 ≡ length part = omega (arith, w.within, later-length part) in
    sym (ap (sum_from total) (drop-length part)) ∙ subst (λ (k : ℕ). sum_from total (drop k part) ≡ sum_of part) e w.left

-- ---- means

from-nonneg : (a : Float) (xs : List Float) → T (nonneg a) → ((i : ℕ) → i < length xs → T (nonneg (get_or xs i nan))) → T (nonneg (sum_from a xs))
unfolding sum_from
from-nonneg a [] p q = p
from-nonneg a (x ∷ xs) p q = from-nonneg (add binary64 a x) xs (float_add-nonneg binary64 a x p (q 0 (omega arith))) (λ (i : ℕ) (h : i < length xs). q (suc i) (omega arith))

-- the sum of values that are not negative is not negative
pub sum_nonneg : (xs : List Float) → ((i : ℕ) → i < length xs → T (nonneg (get_or xs i nan))) → T (nonneg (sum_of xs))
unfolding sum_of
sum_nonneg [] q = nought-nonneg
sum_nonneg (x ∷ xs) q = from-nonneg x xs (q 0 (omega arith)) (λ (i : ℕ) (h : i < length xs). q (suc i) (omega arith))

-- so is their mean
pub mean_nonneg : (xs : List Float) → 0 < length xs → length xs ≤ 2 ^ 53 → ((i : ℕ) → i < length xs → T (nonneg (get_or xs i nan))) → T (nonneg (mean_of xs))
unfolding mean_of
mean_nonneg xs h k q =
    float_div-nonneg binary64 (sum_of xs) (of_int binary64 (pos (length xs)))
    (positive_of_value (of_int binary64 (pos (length xs))) (length xs) 1 (whole_exact binary64 (length xs) k) h) (sum_nonneg xs q)

-- the mean of a window of scores is not negative
pub window_nonneg : (width : ℕ) (values : List Float) (i : ℕ) → Windowed width values → i < length values → all_of is_score values ≡ true
    → T (nonneg (mean_of (window_of width values i)))
unfolding window_of clipped
window_nonneg width values i ok h e =
    let score-nonneg : (x : Float) → is_score x ≡ true → T (nonneg x) = λ x s. unfold is_score in (holds (both (le nought x) (le x (fin false 1 (pos 0))) s).0) in
    let from = i - half_of width in
    let to = min (i + (width - half_of width)) (length values) in
    let part = part_of from to values in
    let l : length part ≡ to - from = part_length from to values (omega arith) in
    mean_nonneg part (part_sums width values from to ok (window_some width i (length values) ok.some h) (omega arith)).0 (omega (arith, l, ok.few))
    (λ (j : ℕ) (b : j < length part). score-nonneg (get_or part j nan) (all-at is_score part j nan b (all_part is_score from to values e)))
