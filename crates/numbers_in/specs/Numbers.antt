-- What stands at a place of some bytes: little-endian numbers, and floats by their bit patterns. Bytes beyond the end are not there and count as 0.
use Rattle.std.specs.Prelude.{ℕ, ◌+◌, ◌*◌, ◌%◌, List, [], ◌∷◌, Float, get_or, take, drop}
use Rattle.std.specs.Float.{binary32, binary64}
use Rattle.std.specs.Float.Ieee.{of_bits}

-- 2^56: below it a number has room for one more byte
abbrev pub seven_bytes : ℕ
seven_bytes = 72057594037927936

-- the number of some bytes, the lowest first; 64 bits of it are kept
unfoldable pub number_of : List ℕ → ℕ
number_of [] = 0
number_of (b ∷ bs) = number_of bs % seven_bytes * 256 + b

-- the number of so many bytes at a place
abbrev pub number_at : List ℕ → ℕ → ℕ → ℕ
number_at s at size = number_of (take size (drop at s))

-- the byte at a place
abbrev pub byte_at : List ℕ → ℕ → ℕ
byte_at s at = get_or s at 0

-- the number of two bytes at a place
abbrev pub u16_at : List ℕ → ℕ → ℕ
u16_at s at = number_at s at 2 % 65536

-- the low 32 bits
abbrev pub low : ℕ → ℕ
low w = w % 4294967296

-- the number of four bytes at a place
abbrev pub u32_at : List ℕ → ℕ → ℕ
u32_at s at = low (number_at s at 4)

-- the number of eight bytes at a place
abbrev pub u64_at : List ℕ → ℕ → ℕ
u64_at s at = number_at s at 8

-- the float of a pattern; a NaN's pattern, whichever, is the NaN of lib.Ieee
abbrev pub f32_at : List ℕ → ℕ → Float
f32_at s at = of_bits binary32 (u32_at s at)

-- the float of eight bytes
abbrev pub f64_at : List ℕ → ℕ → Float
f64_at s at = of_bits binary64 (u64_at s at)
