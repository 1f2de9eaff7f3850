-- The order of floats as a type by cases, `Le`, and that `lt`, `eq` and `le` test it: a statement about `le` is proved of `Le`, where each case has its own shape.
-- Of two finite values it is the order of two signed numbers over one denominator. Steps for the other files.
use Rattle.std.specs.Prelude.{◌≡◌, refl, ◌⊎◌, ℕ, ◌+◌, ◌*◌, Bool, true, false, not, ◌||◌, ℤ, pos, T, Float}
use Rattle.std.proofs.Common.{sym, inl, inr, le_refl, le_of_eq, le_of_lt, le_antisymm, not-le_of_lt, arith}
use Rattle.std.specs.Float.{nan, inf, fin}
use Rattle.std.specs.Float.Ieee.{up, down, below, level, lt, eq, le, is_nan}
use Rattle.std.specs.Float.Ieee.Fits.{down_pos}
use Rattle.base_laws.specs.Tests.{or_l, or_r, or_split, lt_or_le}
use Rattle.base_laws.specs.Signed.{posi, nega, Under, under_trans, below→lt, lt→below, level→eq, eq→level}

-- at most, by cases
abbrev pub Le : Float → Float → Type 0
Le nan y = ⊥
Le (inf s) nan = ⊥
Le (inf true) (inf t) = Unit {0}
Le (inf false) (inf true) = ⊥
Le (inf false) (inf false) = Unit {0}
Le (inf true) (fin t n d) = Unit {0}
Le (inf false) (fin t n d) = ⊥
Le (fin s m e) nan = ⊥
Le (fin s m e) (inf true) = ⊥
Le (fin s m e) (inf false) = Unit {0}
Le (fin s m e) (fin t n d) = Under s (m * up e * down d) t (n * up d * down e)

-- ---- `le` tests it

to-under : (s : Bool) (a : ℕ) (t : Bool) (b : ℕ) → T (below s a t b || level s a t b) → Under s a t b
to-under s a t b h =
    elim (or_split (below s a t b) (level s a t b) h) [ inl l ↦ le_of_lt (below→lt s a t b l) | inr e ↦ le_of_eq (level→eq s a t b e) ]

of_under : (s : Bool) (a : ℕ) (t : Bool) (b : ℕ) → Under s a t b → T (below s a t b || level s a t b)
of_under s a t b h = elim (lt_or_le (posi s a + nega t b) (posi t b + nega s a)) [
  | inl l ↦ or_l (below s a t b) (level s a t b) (lt→below s a t b l)
  | inr g ↦ or_r (below s a t b) (level s a t b) (eq→level s a t b (le_antisymm h g))
]

-- what `le` says, by cases
pub le→Le : (x y : Float) → T (le x y) → Le x y
unfolding le
le→Le nan y t = t
le→Le (inf true) nan t = t
le→Le (inf false) nan t = t
le→Le (inf true) (inf u) t = tt
le→Le (inf false) (inf true) t = t
le→Le (inf false) (inf false) t = tt
le→Le (inf true) (fin u n d) t = tt
le→Le (inf false) (fin u n d) t = t
le→Le (fin s m e) nan t = t
le→Le (fin s m e) (inf true) t = t
le→Le (fin s m e) (inf false) t = tt
le→Le (fin s m e) (fin u n d) t = to-under s (m * up e * down d) u (n * up d * down e) t

-- and back
pub Le→le : (x y : Float) → Le x y → T (le x y)
unfolding le
Le→le nan y h = h
Le→le (inf true) nan h = h
Le→le (inf false) nan h = h
Le→le (inf true) (inf true) h = tt
Le→le (inf true) (inf false) h = tt
Le→le (inf false) (inf true) h = h
Le→le (inf false) (inf false) h = tt
Le→le (inf true) (fin u n d) h = tt
Le→le (inf false) (fin u n d) h = h
Le→le (fin s m e) nan h = h
Le→le (fin s m e) (inf true) h = h
Le→le (fin s m e) (inf false) h = tt
Le→le (fin s m e) (fin u n d) h = of_under s (m * up e * down d) u (n * up d * down e) h

-- ---- it is a total preorder off NaN

-- a number is at most itself
pub Le-refl : (x : Float) → T (not (is_nan x)) → Le x x
unfolding is_nan
Le-refl nan p = p
Le-refl (inf true) p = tt
Le-refl (inf false) p = tt
Le-refl (fin s m e) p = le_refl (posi s (m * up e * down e) + nega s (m * up e * down e))

-- of two numbers one is at most the other
pub Le-total : (x y : Float) → T (not (is_nan x)) → T (not (is_nan y)) → Le x y ⊎ Le y x
unfolding is_nan
Le-total nan y p q = absurd p
Le-total (inf s) nan p q = absurd q
Le-total (inf true) (inf t) p q = inl tt
Le-total (inf false) (inf true) p q = inr tt
Le-total (inf false) (inf false) p q = inl tt
Le-total (inf true) (fin u n d) p q = inl tt
Le-total (inf false) (fin u n d) p q = inr tt
Le-total (fin s m e) nan p q = absurd q
Le-total (fin s m e) (inf true) p q = inr tt
Le-total (fin s m e) (inf false) p q = inl tt
Le-total (fin s m e) (fin t n d) p q =
    let a = m * up e * down d in
    let b = n * up d * down e in
    elim (lt_or_le (posi s a + nega t b) (posi t b + nega s a)) [ inl l ↦ inl (le_of_lt l) | inr g ↦ inr g ]

-- at most chains
pub Le-trans : (x y z : Float) → Le x y → Le y z → Le x z
Le-trans nan y z h k = h
Le-trans (inf s) nan z h k = absurd h
Le-trans (fin s m e) nan z h k = absurd h
Le-trans (inf s) (inf t) nan h k = absurd k
Le-trans (inf s) (fin t n d) nan h k = absurd k
Le-trans (fin s m e) (inf t) nan h k = absurd k
Le-trans (fin s m e) (fin t n d) nan h k = absurd k
Le-trans (inf true) (inf t) (inf u) h k = tt
Le-trans (inf true) (inf t) (fin u o g) h k = tt
Le-trans (inf true) (fin t n d) (inf u) h k = tt
Le-trans (inf true) (fin t n d) (fin u o g) h k = tt
Le-trans (inf false) (inf true) (inf u) h k = absurd h
Le-trans (inf false) (inf true) (fin u o g) h k = absurd h
Le-trans (inf false) (inf false) (inf u) h k = k
Le-trans (inf false) (inf false) (fin u o g) h k = k
Le-trans (inf false) (fin t n d) (inf u) h k = absurd h
Le-trans (inf false) (fin t n d) (fin u o g) h k = absurd h
Le-trans (fin s m e) (inf true) (inf u) h k = absurd h
Le-trans (fin s m e) (inf true) (fin u o g) h k = absurd h
Le-trans (fin s m e) (inf false) (inf true) h k = absurd k
Le-trans (fin s m e) (inf false) (inf false) h k = tt
Le-trans (fin s m e) (inf false) (fin u o g) h k = absurd k
Le-trans (fin s m e) (fin t n d) (inf true) h k = absurd k
Le-trans (fin s m e) (fin t n d) (inf false) h k = tt
Le-trans (fin s m e) (fin t n d) (fin u o g) h k = under_trans s (m * up e) (down e) t (n * up d) (down d) u (o * up g) (down g) (down_pos d) h k

-- a value that is at least zero and has its sign set is zero
pub nega_of : (s : Bool) (m : ℕ) (e : ℤ) → Le (fin false 0 (pos 0)) (fin s m e) → nega s (m * up e) ≡ 0
nega_of false m e h = refl
nega_of true m e h = omega arith

-- -inf is its low end
pub low_end : (z : Float) → T (not (is_nan z)) → Le (inf true) z
unfolding is_nan
low_end nan p = p
low_end (inf t) p = tt
low_end (fin t n d) p = tt

-- +inf is its high end
pub high_end : (z : Float) → T (not (is_nan z)) → Le z (inf false)
unfolding is_nan
high_end nan p = p
high_end (inf true) p = tt
high_end (inf false) p = tt
high_end (fin t n d) p = tt

-- ---- `lt` tests its strict part, and `eq` that it holds both ways

-- below rules out at least
pub lt_excludes : (x y : Float) → T (lt x y) → Le y x → ⊥
unfolding lt
lt_excludes nan y t k = t
lt_excludes (inf s) nan t k = t
lt_excludes (inf true) (inf true) t k = t
lt_excludes (inf true) (inf false) t k = k
lt_excludes (inf false) (inf u) t k = t
lt_excludes (inf true) (fin u n d) t k = k
lt_excludes (inf false) (fin u n d) t k = t
lt_excludes (fin s m e) nan t k = t
lt_excludes (fin s m e) (inf true) t k = t
lt_excludes (fin s m e) (inf false) t k = k
lt_excludes (fin s m e) (fin u n d) t k = not-le_of_lt (below→lt s (m * up e * down d) u (n * up d * down e) t) k

-- not at least is below
pub lt_otherwise : (x y : Float) → T (not (is_nan x)) → T (not (is_nan y)) → (Le y x → ⊥) → T (lt x y)
unfolding lt is_nan
lt_otherwise nan y p q f = absurd p
lt_otherwise (inf s) nan p q f = absurd q
lt_otherwise (inf true) (inf true) p q f = f tt
lt_otherwise (inf true) (inf false) p q f = tt
lt_otherwise (inf false) (inf true) p q f = f tt
lt_otherwise (inf false) (inf false) p q f = f tt
lt_otherwise (inf true) (fin u n d) p q f = tt
lt_otherwise (inf false) (fin u n d) p q f = f tt
lt_otherwise (fin s m e) nan p q f = absurd q
lt_otherwise (fin s m e) (inf true) p q f = f tt
lt_otherwise (fin s m e) (inf false) p q f = tt
lt_otherwise (fin s m e) (fin u n d) p q f =
    let a = m * up e * down d in
    let b = n * up d * down e in
    elim (lt_or_le (posi s a + nega u b) (posi u b + nega s a)) [ inl l ↦ lt→below s a u b l | inr g ↦ absurd (f g) ]

-- equal is at most both ways
pub eq→both : (x y : Float) → T (eq x y) → Le x y × Le y x
unfolding eq
eq→both nan y t = absurd t
eq→both (inf s) nan t = absurd t
eq→both (inf true) (inf true) t = (tt, tt)
eq→both (inf true) (inf false) t = absurd t
eq→both (inf false) (inf true) t = absurd t
eq→both (inf false) (inf false) t = (tt, tt)
eq→both (inf s) (fin u n d) t = absurd t
eq→both (fin s m e) nan t = absurd t
eq→both (fin s m e) (inf u) t = absurd t
eq→both (fin s m e) (fin u n d) t =
    let h = level→eq s (m * up e * down d) u (n * up d * down e) t in
    (le_of_eq h, le_of_eq (sym h))

-- and both ways is equal
pub both→eq : (x y : Float) → Le x y → Le y x → T (eq x y)
unfolding eq
both→eq nan y h k = h
both→eq (inf s) nan h k = k
both→eq (inf true) (inf true) h k = tt
both→eq (inf true) (inf false) h k = k
both→eq (inf false) (inf true) h k = h
both→eq (inf false) (inf false) h k = tt
both→eq (inf true) (fin u n d) h k = k
both→eq (inf false) (fin u n d) h k = h
both→eq (fin s m e) nan h k = k
both→eq (fin s m e) (inf true) h k = h
both→eq (fin s m e) (inf false) h k = k
both→eq (fin s m e) (fin u n d) h k = eq→level s (m * up e * down d) u (n * up d * down e) (le_antisymm h k)
