-- The order of frame values is `f32::total_cmp`'s: IEEE's total order of bit patterns. A value's key is its place there, so -0 comes before +0.
use Rattle.std.specs.Prelude.{◌≡◌, Bool, not, cond, List, [], ◌∷◌, ◌++◌, map, ℕ, ◌+◌, ◌-◌, ltb, eqb, Float, length, drop}
use Rattle.std.specs.Float.{binary32}
use Rattle.std.specs.Float.Ieee.{to_bits, of_bits}
use Rattle.base_terms.specs.Lists.{all_of}
use Rattle.grid.specs.Values.{is_finite}

-- the place of a bit pattern: those with the sign clear rise from 2^31 on, those with it set fall to 0
unfoldable pub place_of : ℕ → ℕ
place_of bits = cond (ltb bits 2147483648) (bits + 2147483648) (4294967295 - bits)

-- the pattern at a place
unfoldable pub pattern_of : ℕ → ℕ
pattern_of place = cond (ltb place 2147483648) (4294967295 - place) (place - 2147483648)

-- the key of a value
unfoldable pub key_of : Float → ℕ
key_of x = place_of (to_bits binary32 x)

-- the value that has a key
unfoldable pub value_of : ℕ → Float
value_of key = of_bits binary32 (pattern_of key)

-- the key of a finite value
unfoldable pub is_key : ℕ → Bool
is_key key = is_finite (value_of key)

-- the values of the frames with signal: those whose flag is 0, in order
unfoldable pub with_signal : List Float → List ℕ → List Float
with_signal [] flags = []
with_signal (v ∷ vs) [] = []
with_signal (v ∷ vs) (f ∷ fs) = cond (eqb f 0) (v ∷ with_signal vs fs) (with_signal vs fs)

-- a frame has no signal
unfoldable pub is_lost : ℕ → Bool
is_lost flag = not (eqb flag 0)

-- any frame has signal
unfoldable pub any_signal : List ℕ → Bool
any_signal flags = not (all_of is_lost flags)

-- the list with the keys of the values with signal in front
unfoldable pub keys_collected : List Float → List ℕ → List ℕ → List ℕ
keys_collected values flags keys = map key_of (with_signal values flags) ++ drop (length (with_signal values flags)) keys

-- what collecting leaves: how many values have signal, and the list
pub record Collected (values : List Float) (flags keys₀ keys : List ℕ) (n : ℕ) : Type 0 where
  pub count : n ≡ length (with_signal values flags)
  pub list : keys ≡ keys_collected values flags keys₀
