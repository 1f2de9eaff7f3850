-- Floats written as bytes, by their bit patterns, and lists. A NaN is written by the one pattern that `to_bits` gives it.
use Rattle.std.specs.Prelude.{ℕ, List, [], ◌∷◌, ◌++◌, Float}
use Rattle.std.specs.Float.{binary32, binary64}
use Rattle.std.specs.Float.Ieee.{to_bits}
use Rattle.base_terms.specs.Bytes.{bytes_of}

-- the four bytes of an f32
abbrev pub f32_bytes : Float → List ℕ
f32_bytes x = bytes_of 4 (to_bits binary32 x)

-- the eight bytes of an f64
abbrev pub f64_bytes : Float → List ℕ
f64_bytes x = bytes_of 8 (to_bits binary64 x)

-- a list, each element written by a function
unfoldable pub all_bytes : {A : Type 0} → (A → List ℕ) → List A → List ℕ
all_bytes write [] = []
all_bytes write (x ∷ xs) = write x ++ all_bytes write xs
