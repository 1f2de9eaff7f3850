-- Which piece is the tail. One flag is 1 and the other 2, so that either can be read off their sum.
-- No piece has both: a length above the whole samples of the maximum is at least one more, and neither the maximum nor a minimum up to it is above that as a float.
use Rattle.std.specs.Prelude.{◌≡◌, refl, Bool, true, false, ◌&&◌, ◌||◌, not, cond, ℕ, zero, suc, ◌+◌, ◌-◌, ◌*◌, ◌^◌, ◌≤◌, ◌<◌, T, leb, eqb, pos, Float}
use Rattle.std.proofs.Common.{sym, ap, ◌∙◌, arith, ltb-true, le-leb, eq-eqb, ne_eqb}
use Rattle.std.specs.Int.{from_bool}
use Rattle.std.proofs.Math.Dec.{eqb-suc-suc}
use Rattle.std.specs.Float.{binary64}
use Rattle.std.specs.Float.Ieee.{of_int, le}
use Rattle.std.specs.Float.Ieee.Bits.{is_false}
use Rattle.std.proofs.lemmas.Bool.{lt-leb}
use Rattle.base_laws.specs.Tests.{unmet}
use Rattle.base_laws.specs.Order.{float_le_trans, float_le_not_lt}
use Rattle.base_laws.specs.Whole.{whole_mono}
use Rattle.grid.specs.Durations.{samples_floor, samples_in}
use Rattle.grid.specs.DurationsLaws.{samples_mono, samples_within}
use Rattle.plan_pieces.specs.Flags.{has_long, has_short, is_shorter, is_longer, is_tail, IsShort, short_flag, long_flag, flags_of}

-- ---- the tail

-- the piece of a plan of one is not the tail
pub tail_alone : (k i : ℕ) → k < 2 → is_tail k i ≡ false
unfolding is_tail
tail_alone k i h = rw (lt-leb 2 k h)

-- of several, piece i is where its number is the last
pub tail_of_several : (k i : ℕ) → 2 ≤ k → is_tail k i ≡ eqb i (k - 1)
unfolding is_tail
tail_of_several k i h = rw (le-leb 2 k h) (go k h)
  where
    go : (n : ℕ) → 2 ≤ n → eqb (suc i) n ≡ eqb i (n - 1)
    go zero l = absurd (omega arith)
    go (suc n) l = let e : suc n - 1 ≡ n = omega arith in rw e (eqb-suc-suc i n)

-- the last of several is
pub tail_last : (k : ℕ) → 2 ≤ k → is_tail k (k - 1) ≡ true
tail_last k h = tail_of_several k (k - 1) h ∙ eq-eqb (k - 1) (k - 1) refl

-- a piece before the last is not
pub tail_before : (k i : ℕ) → suc i < k → is_tail k i ≡ false
tail_before k i h = tail_of_several k i (omega (arith, h)) ∙ ne_eqb i (k - 1) (λ e. omega (arith, e, h))

-- ---- each flag

-- a test as a number, 1 where it holds, is flag `s` of a piece that is not the tail
pub short_told : (least : Float) (len n : ℕ) → n ≡ from_bool (is_shorter least len) → n ≡ short_flag false least len
unfolding short_flag
short_told least len n e = e ∙ go (is_shorter least len)
  where
    go : (b : Bool) → from_bool b ≡ cond b 1 0
    go true = refl
    go false = refl

-- and twice that number is flag `l`
pub long_told : (most len n : ℕ) → n ≡ from_bool (is_longer most len) → 2 * n ≡ long_flag most len
unfolding long_flag
long_told most len n e = ap (λ (m : ℕ). 2 * m) e ∙ go (is_longer most len)
  where
    go : (b : Bool) → 2 * from_bool b ≡ cond b 2 0
    go true = refl
    go false = refl

-- ---- both as one number

-- the tail has flag `l` or none: what would be `sl` is `l`
pub tail_flags : (least : Float) (most len : ℕ) → long_flag most len ≡ flags_of true least most len
unfolding flags_of short_flag
tail_flags least most len = omega arith

-- their sum is small
pub flags_small : (short long : ℕ) (tail : Bool) (least : Float) (most len : ℕ) → short ≡ short_flag tail least len → long ≡ long_flag most len → short + long ≤ 3
unfolding short_flag long_flag
flags_small short long tail least most len e f = rw (e, f) (go (IsShort tail least len) (is_longer most len))
  where
    go : (s l : Bool) → cond s 1 0 + cond l 2 0 ≤ 3
    go true true = omega arith
    go true false = omega arith
    go false true = omega arith
    go false false = omega arith

-- so is the number that both make
pub flags_most : (tail : Bool) (least : Float) (most len : ℕ) → flags_of tail least most len ≤ 3
unfolding flags_of
flags_most tail least most len = flags_small (short_flag tail least len) (long_flag most len) tail least most len refl refl

-- the long flag stands exactly where the piece is longer than the maximum
pub long_stands : (tail : Bool) (least : Float) (most len : ℕ) → has_long (flags_of tail least most len) ≡ is_longer most len
unfolding flags_of short_flag long_flag
long_stands tail least most len = go (IsShort tail least len) (is_longer most len)
  where
    go : (s l : Bool) → leb 2 (cond s 1 0 + cond l 2 0) ≡ l
    go true true = refl
    go true false = refl
    go false true = refl
    go false false = refl

-- the short flag stands exactly where it is not the tail and shorter than the minimum
pub short-stands : (tail : Bool) (least : Float) (most len : ℕ) → has_short (flags_of tail least most len) ≡ IsShort tail least len
unfolding flags_of short_flag long_flag
short-stands tail least most len = go (IsShort tail least len) (is_longer most len)
  where
    go : (s l : Bool) → (eqb (cond s 1 0 + cond l 2 0) 1 || eqb (cond s 1 0 + cond l 2 0) 3) ≡ s
    go true true = refl
    go true false = refl
    go false true = refl
    go false false = refl

-- ---- never both

-- a piece longer than the maximum is not shorter than a minimum up to it
pub long_not_short : (rate least most len : ℕ) → least ≤ most → most * rate < 2 ^ 66 → is_longer (samples_floor rate most) len ≡ true
    → is_shorter (samples_in rate least) len ≡ false
long_not_short rate least most len h k e =
    let length = of_int binary64 (pos len) in
    let next = of_int binary64 (pos (suc (samples_floor rate most))) in
    let above : T (le next length) = whole_mono binary64 (suc (samples_floor rate most)) len (ltb-true (samples_floor rate most) len e) in
    let within : T (le (samples_in rate least) next) =
    float_le_trans (samples_in rate least) (samples_in rate most) next (samples_mono rate least most h) (samples_within rate most k) in
    is_false (is_shorter (samples_in rate least) len) (float_le_not_lt length (samples_in rate least) (float_le_trans (samples_in rate least) next length within above))

-- so at most one flag stands
pub flags-one : (tail : Bool) (rate least most len : ℕ) → least ≤ most → most * rate < 2 ^ 66 → flags_of tail (samples_in rate least) (samples_floor rate most) len ≤ 2
unfolding flags_of short_flag long_flag
flags-one tail rate least most len h k =
    go tail (is_shorter (samples_in rate least) len) (is_longer (samples_floor rate most) len) (long_not_short rate least most len h k)
  where
    go : (t s l : Bool) → (l ≡ true → s ≡ false) → cond (not t && s) 1 0 + cond l 2 0 ≤ 2
    go true s true n = omega arith
    go true s false n = omega arith
    go false true true n = unmet (sym (n refl))
    go false true false n = omega arith
    go false false true n = omega arith
    go false false false n = omega arith
