-- A signed number ±a as the difference of two natural numbers, `posi` less `nega`: so written, its order and its sums are linear, and omega closes what is asked of them.
-- `below` and `level` of lib.Ieee are the tests of that order. Steps for the other files.
use Rattle.std.specs.Prelude.{◌≡◌, refl, ℕ, ◌+◌, ◌*◌, ◌≤◌, ◌<◌, Bool, true, false, not, T, eqb}
use Rattle.std.proofs.Common.{sym, ap, ◌∙◌, inl, inr, not-le_of_lt, mul-pos, mul_assoc, mul_comm, mul_left_comm, mul_right_comm, mul-le-mul_right, le_of_mul-le-mul_right, zero-mul, add-mul, arith, eqb→eq, ltb→lt, lt→ltb}
use Rattle.std.specs.Float.Ieee.{below, level}
use Rattle.std.specs.Float.Ieee.Fits.{and_l, and_r, and_i, eq→eqb}
use Rattle.base_laws.specs.Tests.{lt_or_le}

-- ---- natural numbers

-- a product that is zero, by a factor that is not
pub zero_of : (a q : ℕ) → 0 < q → a * q ≤ 0 → a ≡ 0
zero_of a q Q h = elim (lt_or_le 0 a) [ inl l ↦ absurd (not-le_of_lt (mul-pos l Q) h) | inr g ↦ omega arith ]

-- a product with zero is zero
pub times_zero : (a r : ℕ) → a ≡ 0 → a * r ≡ 0
times_zero a r z = ap (λ (k : ℕ). k * r) z ∙ zero-mul r

-- ---- a signed number as a difference

-- what a counts for above zero
abbrev pub posi : Bool → ℕ → ℕ
posi true a = 0
posi false a = a

-- what a counts for below zero
abbrev pub nega : Bool → ℕ → ℕ
nega true a = a
nega false a = 0

-- k times as much counts for k times as much, above zero
pub posi_scale : (s : Bool) (a k : ℕ) → posi s (a * k) ≡ posi s a * k
posi_scale true a k = sym (zero-mul k)
posi_scale false a k = refl

-- and below zero
pub nega_scale : (s : Bool) (a k : ℕ) → nega s (a * k) ≡ nega s a * k
nega_scale true a k = refl
nega_scale false a k = sym (zero-mul k)

-- ---- its order: ±a ≤ ±b

-- at most
abbrev pub Under : Bool → ℕ → Bool → ℕ → Type 0
Under s a t b = posi s a + nega t b ≤ posi t b + nega s a

-- both sides multiplied, it still holds
pub under_scale : (s : Bool) (a : ℕ) (t : Bool) (b k : ℕ) → Under s a t b → Under s (a * k) t (b * k)
under_scale s a t b k h = simp (posi_scale, nega_scale) (simp add-mul at (mul-le-mul_right k h))

under_unscale : (s : Bool) (a : ℕ) (t : Bool) (b k : ℕ) → 0 < k → Under s (a * k) t (b * k) → Under s a t b
under_unscale s a t b k K h = le_of_mul-le-mul_right (rw (add-mul (posi s a), add-mul (posi t b)) (simp (posi_scale, nega_scale) at h)) K

-- both sides negated, it holds the other way round
pub under_flip : (s : Bool) (a : ℕ) (t : Bool) (b : ℕ) → Under s a t b → Under (not t) b (not s) a
under_flip true a true b h = omega arith
under_flip true a false b h = omega arith
under_flip false a true b h = omega arith
under_flip false a false b h = omega arith

-- x / p is a / c and y / q is b / d, so the order of ±a / c and ±b / d is that of ±x / p and ±y / q
pub under_transfer : (s : Bool) (x p a c : ℕ) (t : Bool) (y q b d : ℕ) → 0 < c → 0 < d → x * c ≡ a * p → y * d ≡ b * q → Under s (a * d) t (b * c)
    → Under s (x * q) t (y * p)
under_transfer s x p a c t y q b d C D e g h =
    let l : a * d * (p * q) ≡ x * q * (c * d) = simp (mul_assoc, mul_comm, mul_left_comm)
    (simp (mul_assoc, mul_comm) at (ap (λ (z : ℕ). z * (d * q)) (sym e))) in
    let r : b * c * (p * q) ≡ y * p * (c * d) = simp (mul_assoc, mul_comm, mul_left_comm)
    (simp (mul_assoc, mul_comm, mul_left_comm) at (ap (λ (z : ℕ). z * (c * p)) (sym g))) in
    under_unscale s (x * q) t (y * p) (c * d) (mul-pos C D) (rw (← l, ← r) (under_scale s (a * d) t (b * c) (p * q) h))

-- of fractions ±a / p, ±b / q and ±c / r
pub under_trans : (s : Bool) (a p : ℕ) (t : Bool) (b q : ℕ) (u : Bool) (c r : ℕ) → 0 < q → Under s (a * q) t (b * p) → Under t (b * r) u (c * q)
    → Under s (a * r) u (c * p)
under_trans s a p t b q u c r Q h k =
    let h' : Under s (a * r * q) t (b * p * r) = rw (mul_right_comm a r q) (under_scale s (a * q) t (b * p) r h) in
    let k' : Under t (b * p * r) u (c * p * q) = rw (mul_right_comm b p r, mul_right_comm c p q) (under_scale t (b * r) u (c * q) p k) in
    under_unscale s (a * r) u (c * p) q Q (omega arith)

-- ---- the tests of lib.Ieee

-- `below` tests the strict order
pub below→lt : (s : Bool) (a : ℕ) (t : Bool) (b : ℕ) → T (below s a t b) → posi s a + nega t b < posi t b + nega s a
below→lt false a false b h = let l : a < b = ltb→lt a b h in omega arith
below→lt false a true b h = absurd h
below→lt true a false b h = let l : 0 < a + b = ltb→lt 0 (a + b) h in omega arith
below→lt true a true b h = let l : b < a = ltb→lt b a h in omega arith

-- and passes where it holds
pub lt→below : (s : Bool) (a : ℕ) (t : Bool) (b : ℕ) → posi s a + nega t b < posi t b + nega s a → T (below s a t b)
lt→below false a false b h = lt→ltb a b (omega arith)
lt→below false a true b h = omega arith
lt→below true a false b h = lt→ltb 0 (a + b) (omega arith)
lt→below true a true b h = lt→ltb b a (omega arith)

-- `level` tests that the two are equal
pub level→eq : (s : Bool) (a : ℕ) (t : Bool) (b : ℕ) → T (level s a t b) → posi s a + nega t b ≡ posi t b + nega s a
level→eq false a false b h = let e : a ≡ b = eqb→eq a b (and_l (eqb a b) true h) in omega arith
level→eq false a true b h =
    let e : a ≡ b = eqb→eq a b (and_l (eqb a b) (eqb a 0) h) in let z : a ≡ 0 = eqb→eq a 0 (and_r (eqb a b) (eqb a 0) h) in omega arith
level→eq true a false b h =
    let e : a ≡ b = eqb→eq a b (and_l (eqb a b) (eqb a 0) h) in let z : a ≡ 0 = eqb→eq a 0 (and_r (eqb a b) (eqb a 0) h) in omega arith
level→eq true a true b h = let e : a ≡ b = eqb→eq a b (and_l (eqb a b) true h) in omega arith

-- and passes where they are
pub eq→level : (s : Bool) (a : ℕ) (t : Bool) (b : ℕ) → posi s a + nega t b ≡ posi t b + nega s a → T (level s a t b)
eq→level false a false b h = let e : a ≡ b = omega arith in and_i (eqb a b) true (eq→eqb e) tt
eq→level false a true b h = let e : a ≡ b = omega arith in let z : a ≡ 0 = omega arith in and_i (eqb a b) (eqb a 0) (eq→eqb e) (eq→eqb z)
eq→level true a false b h = let e : a ≡ b = omega arith in let z : a ≡ 0 = omega arith in and_i (eqb a b) (eqb a 0) (eq→eqb e) (eq→eqb z)
eq→level true a true b h = let e : a ≡ b = omega arith in and_i (eqb a b) true (eq→eqb e) tt
