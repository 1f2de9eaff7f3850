-- How far a piece's length is from the target, relative to the target, in the program's operations; and that of all lengths of a range the one closest to the target is closest as computed.
-- A difference and then a quotient by a positive target keep the order, so the offset rises with the length and has the sign of the difference.
-- What a piece costs for its length, as `Lengths::cost` has it; the least that any length of a range can cost, as `Search::bound` has it; and that the second is a bound of the first.
-- The bound takes the length closest to the target and the longest: each term of the cost is least at its own, and every rounded operation on the way keeps the order.
use Rattle.std.proofs.Math.Logic.{inl, inr}
use Rattle.std.specs.Prelude.{ℕ, suc, ◌+◌, ◌≤◌, ◌^◌, false, pos, negsuc, Float}
use Rattle.std.proofs.Common.{arith, lit≤}
use Rattle.std.proofs.Math.Dec.{T}
use Rattle.std.specs.Float.{fin, Format, binary32, binary64}
use Rattle.std.specs.Float.Ieee.{emax, sub, le, add, mul, of_int, lt}
use Rattle.std.specs.Float.Ieee.Scale.{finite}
use Rattle.std.specs.Float.Ieee.Positive.{positive, positive-finite, between}
use Rattle.std.specs.Float.Ieee.Bits.{is_true, is_false}
use Rattle.base_laws.specs.Order.{float_le_refl, float_le_trans, float_lt-le, float_le-lt_trans}
use Rattle.base_terms.specs.Floats.{nought, nonneg, abs_of, clamp_of}
use Rattle.base_laws.specs.Nonneg.{finite_number, finite_between, positive_nonneg, finite_within, abs_finite, abs_rises, abs_falls, nonneg-number, positive_above}
use Rattle.base_laws.specs.Differences.{float_sub_mono, float_sub-nonneg, float_sub_nonpos, float_sub-within}
use Rattle.base_laws.specs.Quotients.{float_div_mono, float_div-nonneg, float_div_nonpos, float_div_finite}
use Rattle.base_laws.specs.Whole.{power_fits, whole-nonneg, whole-within}
use Rattle.base_laws.specs.Clamp.{clamp_between}
use Rattle.base_terms.specs.Lengths.{square, off_of, short, length_cost, length_bound}
use Rattle.base_laws.specs.Square.{square_mono, square-fits, square-nonneg}
use Rattle.base_laws.specs.Tests.{passes}
use Rattle.base_laws.specs.Sums.{add_mono, float_add-nonneg, float_add_grows}
use Rattle.base_laws.specs.Products.{float_mul-number, float_mul_mono, float_mul-nonneg}

-- ---- order and sign

-- it grows with the length
pub off_mono : (f : Format) (t x x' : Float) → T (positive t) → T (finite x) → T (finite x') → T (le x x') → T (le (off_of f t x) (off_of f t x'))
unfolding off_of
off_mono f t x x' p g g' h =
    let k : T (finite t) = positive-finite t p in
    float_div_mono f (sub f x t) (sub f x' t) t p (float_sub_mono f x x' t t g g' k k h (float_le_refl t (finite_number t k)))

-- it is not negative from the target up
pub off_nonneg : (f : Format) (t x : Float) → T (positive t) → T (finite x) → T (le t x) → T (nonneg (off_of f t x))
unfolding off_of
off_nonneg f t x p g h = float_div-nonneg f (sub f x t) t p (float_sub-nonneg f x t g (positive-finite t p) h)

-- and not above zero from the target down
pub off_nonpos : (f : Format) (t x : Float) → T (positive t) → T (finite x) → T (le x t) → T (le (off_of f t x) nought)
unfolding off_of
off_nonpos f t x p g h = float_div_nonpos f (sub f x t) t p (float_sub_nonpos f x t g (positive-finite t p) h)

-- ---- size

-- it is finite for a length and a target up to 2 ^ a and a target of 2 ^ -(b + 1) at least, where a + b + 1 is an exponent of the format
pub off_finite : (f : Format) (t x : Float) (a b : ℕ) → a + suc b ≤ emax f → T (nonneg x) → T (le x (fin false 1 (pos a)))
    → T (le (fin false 1 (negsuc b)) t) → T (le t (fin false 1 (pos a))) → T (finite (off_of f t x))
unfolding off_of
off_finite f t x a b r n h l k =
    let p : T (positive t) = between (fin false 1 (negsuc b)) t (fin false 1 (pos a)) tt tt l k in
    float_div_finite f (sub f x t) t a b r
    (float_sub-within f x t (fin false 1 (pos a)) n (positive_nonneg t p) h k tt (power_fits f a (omega arith))) p l

-- of a range, the length closest to the target is no further off than any other x
pub off_closest : (f : Format) (t lo x hi : Float) → T (positive t) → T (finite x) → T (le lo x) → T (le x hi)
    → T (le (abs_of (off_of f t (clamp_of t lo hi))) (abs_of (off_of f t x)))
off_closest f t lo x hi p g h k =
    let c = clamp_of t lo hi in
    let ft : T (finite t) = positive-finite t p in
    elim (clamp_between t lo x hi (finite_number t ft) h k) [
      | inl b ↦
          let gc : T (finite c) = finite_between t c x ft g b.0 b.1 in
          abs_rises (off_of f t c) (off_of f t x) (off_nonneg f t c p gc b.0) (off_mono f t c x p gc g b.1)
      | inr b ↦
          let gc : T (finite c) = finite_between x c t g ft b.0 b.1 in
          abs_falls (off_of f t c) (off_of f t x) (off_nonpos f t c p gc b.1) (off_mono f t x c p g gc b.0)
    ]

-- so it is finite where that is
pub off_closest_finite : (f : Format) (t lo x hi : Float) → T (positive t) → T (finite x) → T (le lo x) → T (le x hi) → T (finite (off_of f t x))
    → T (finite (off_of f t (clamp_of t lo hi)))
off_closest_finite f t lo x hi p g h k o =
    finite_within (off_of f t (clamp_of t lo hi)) (abs_of (off_of f t x)) (rw (abs_finite (off_of f t x)) o) (off_closest f t lo x hi p g h k)

-- and its square term is at most that of x
pub square_closest : (f : Format) (wt t lo x hi : Float) → T (nonneg wt) → T (finite wt) → T (positive t) → T (finite x) → T (le lo x) → T (le x hi)
    → T (finite (off_of f t x)) → T (le (square f wt (off_of f t (clamp_of t lo hi))) (square f wt (off_of f t x)))
square_closest f wt t lo x hi p fw q g h k o =
    square_mono f wt (off_of f t (clamp_of t lo hi)) (off_of f t x) p fw (off_closest_finite f t lo x hi q g h k o) o (off_closest f t lo x hi q g h k)

-- ---- what is asked: wt and ws are the weights of the target and of the shortfall, m is the minimum, t the target, x a length

-- what the planner asks of its preferences: the target is from 2 ^ -40 to 2 ^ 60, and the minimum is at most 2 ^ 60
pub record Preferences (f : Format) (wt ws m t : Float) : Type 0 where
  pub target_weight_nonneg : T (nonneg wt)
  pub target_weight_finite : T (finite wt)
  pub short_weight_nonneg : T (nonneg ws)
  pub short_weight_finite : T (finite ws)
  pub min_high : T (le m (fin false 1 (pos 60)))
  pub target_low : T (le (fin false 1 (negsuc 39)) t)
  pub target_high : T (le t (fin false 1 (pos 60)))

-- and of a length: from zero to 2 ^ 60
pub record Length (x : Float) : Type 0 where
  pub length_nonneg : T (nonneg x)
  pub length_high : T (le x (fin false 1 (pos 60)))

-- both formats hold 2 ^ 60
room : (f : Format) → 60 ≤ emax f
room binary32 = lit≤ tt
room binary64 = lit≤ tt

-- a whole number up to there is a length
pub length_whole : (f : Format) (n : ℕ) → n ≤ 2 ^ 60 → Length (of_int f (pos n))
length_whole f n h = record { length_nonneg = whole-nonneg f n; length_high = whole-within f n 60 h (room f) }

-- ---- the shortfall

-- the difference that it weighs
gap : (f : Format) (m x : Float) → T (positive m) → T (le m (fin false 1 (pos 60))) → T (nonneg x) → T (le x m)
    → T (finite x) × (T (finite (sub f m x)) × T (nonneg (sub f m x)))
gap f m x p v n h =
    let fm : T (finite m) = positive-finite m p in
    let fx : T (finite x) = finite_between nought x m tt fm n h in
    let top : Float = fin false 1 (pos 60) in
    let w : T (le (abs_of (sub f m x)) top) = float_sub-within f m x top (positive_nonneg m p) n v (float_le_trans x m top h v) tt (power_fits f 60 (room f)) in
    (fx, (finite_within (sub f m x) top tt w, float_sub-nonneg f m x fm fx h))

-- up to the minimum the shortfall is not negative
pub short-nonneg : (f : Format) (ws m x : Float) → T (nonneg ws) → T (finite ws) → T (positive m) → T (le m (fin false 1 (pos 60))) → T (nonneg x)
    → T (le x m) → T (nonneg (short f ws m x))
unfolding short
short-nonneg f ws m x p fw q v n h =
    let g = gap f m x q v n h in
    float_div-nonneg f (mul f ws (sub f m x)) m q (float_mul-nonneg f ws (sub f m x) p g.1.1 (float_mul-number f ws (sub f m x) fw g.1.0))

-- and falls as the length grows
pub short_falls : (f : Format) (ws m x x' : Float) → T (nonneg ws) → T (finite ws) → T (positive m) → T (le m (fin false 1 (pos 60))) → T (nonneg x)
    → T (le x x') → T (le x' m) → T (le (short f ws m x') (short f ws m x))
unfolding short
short_falls f ws m x x' p fw q v n h k =
    let g = gap f m x q v n (float_le_trans x x' m h k) in
    let g' = gap f m x' q v (float_le_trans nought x x' n h) k in
    let fm : T (finite m) = positive-finite m q in
    let d : T (le (sub f m x') (sub f m x)) = float_sub_mono f m m x' x fm fm g'.0 g.0 (float_le_refl m (finite_number m fm)) h in
    float_div_mono f (mul f ws (sub f m x')) (mul f ws (sub f m x)) m q
    (float_mul_mono f ws ws (sub f m x') (sub f m x) p g'.1.1 (float_le_refl ws (nonneg-number ws p)) d
    (float_mul-number f ws (sub f m x') fw g'.1.0) (float_mul-number f ws (sub f m x) fw g.1.0))

-- both formats hold 2 ^ 100, above any length over any target
wide_enough : (f : Format) → 60 + suc 39 ≤ emax f
wide_enough binary32 = lit≤ tt
wide_enough binary64 = lit≤ tt

-- ---- the cost, and its bound

module _ {f : Format} {wt ws m t : Float} (ok : Preferences f wt ws m t) where
  -- the target is above zero, and a length is finite
  target_positive : T (positive t)
  target_positive = between (fin false 1 (negsuc 39)) t (fin false 1 (pos 60)) tt tt ok.target_low ok.target_high

  finite_length : (x : Float) → Length x → T (finite x)
  finite_length x l = finite_between nought x (fin false 1 (pos 60)) tt tt l.length_nonneg l.length_high

  -- so the offset of a length is finite
  finite_off : (x : Float) → Length x → T (finite (off_of f t x))
  finite_off x l =
      off_finite f t x 60 39 (wide_enough f) l.length_nonneg l.length_high ok.target_low ok.target_high

  -- a minimum above a length is above zero
  min_positive : (x : Float) → T (nonneg x) → T (lt x m) → T (positive m)
  min_positive x n h =
      positive_above x m n h (finite_between nought m (fin false 1 (pos 60)) tt tt (float_le_trans nought x m n (float_lt-le x m h)) ok.min_high)

  -- the shortfall of a length below the minimum is not negative
  below_min : (x : Float) → T (nonneg x) → T (lt x m) → T (nonneg (short f ws m x))
  below_min x n h =
      short-nonneg f ws m x ok.short_weight_nonneg ok.short_weight_finite (min_positive x n h) ok.min_high n
      (float_lt-le x m h)

  -- the square term is not negative where the offset is finite
  square_ok : (x : Float) → T (finite (off_of f t x)) → T (nonneg (square f wt (off_of f t x)))
  square_ok x o = square-nonneg f wt (off_of f t x) ok.target_weight_nonneg ok.target_weight_finite o

  -- a length's cost is not negative
  pub length_cost-nonneg : {x : Float} → Length x → T (nonneg (length_cost f wt ws m t x))
  unfolding length_cost
  length_cost-nonneg {x} l =
      let c = square f wt (off_of f t x) in
      elim (passes (lt x m)) [
        | inl h ↦ rw (is_true (lt x m) h)
            (float_add-nonneg f c (short f ws m x) (square_ok x (finite_off x l)) (below_min x l.length_nonneg h))
        | inr h ↦ rw (is_false (lt x m) h) (square_ok x (finite_off x l))
      ]

  -- the bound of a range is not negative
  pub length_bound-nonneg : {lo : Float} (hi : Float) → Length lo → T (le lo hi) → T (nonneg (length_bound f wt ws m t lo hi))
  unfolding length_bound
  length_bound-nonneg {lo} hi l r =
      let c = square f wt (off_of f t (clamp_of t lo hi)) in
      let lo_lo : T (le lo lo) = float_le_refl lo (nonneg-number lo l.length_nonneg) in
      let o : T (finite (off_of f t (clamp_of t lo hi))) = off_closest_finite f t lo lo hi target_positive (finite_length lo l) lo_lo r (finite_off lo l) in
      let n : T (nonneg c) = square_ok (clamp_of t lo hi) o in
      elim (passes (lt hi m)) [
        | inl h ↦ rw (is_true (lt hi m) h)
            (float_add-nonneg f c (short f ws m hi) n (below_min hi (float_le_trans nought lo hi l.length_nonneg r) h))
        | inr h ↦ rw (is_false (lt hi m) h) n
      ]

  -- the bound of a range is at most the cost of every length in it
  pub length_bound_least : (lo hi : Float) {x : Float} → Length x → T (le lo x) → T (le x hi)
      → T (le (length_bound f wt ws m t lo hi) (length_cost f wt ws m t x))
  unfolding length_bound length_cost
  length_bound_least lo hi {x} l h k =
      let g : T (finite x) = finite_length x l in
      let o : T (finite (off_of f t x)) = finite_off x l in
      let b = square f wt (off_of f t (clamp_of t lo hi)) in
      let c = square f wt (off_of f t x) in
      let cs = add f c (short f ws m x) in
      let nb : T (nonneg b) = square_ok (clamp_of t lo hi) (off_closest_finite f t lo x hi target_positive g h k o) in
      let nc : T (nonneg c) = square_ok x o in
      let q : T (le b c) = square_closest f wt t lo x hi ok.target_weight_nonneg ok.target_weight_finite target_positive g h k o in
      elim (passes (lt hi m)) [
        | inl i ↦
            let j : T (lt x m) = float_le-lt_trans x hi m k i in
            let nh : T (nonneg hi) = float_le_trans nought x hi l.length_nonneg k in
            rw (is_true (lt hi m) i, is_true (lt x m) j)
            (add_mono f b c (short f ws m hi) (short f ws m x) nb (below_min hi nh i) q
            (short_falls f ws m x hi ok.short_weight_nonneg ok.short_weight_finite (min_positive x l.length_nonneg j)
            ok.min_high l.length_nonneg k (float_lt-le hi m i)))
        | inr i ↦ elim (passes (lt x m)) [
          | inl j ↦ rw (is_false (lt hi m) i, is_true (lt x m) j)
              (float_le_trans b c cs q (float_add_grows f c (short f ws m x) nc (square-fits f wt (off_of f t x)) (below_min x l.length_nonneg j)))
          | inr j ↦ rw (is_false (lt hi m) i, is_false (lt x m) j) q
        ]
      ]
