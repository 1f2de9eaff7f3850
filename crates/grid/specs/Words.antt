-- Masks: the bits that a byte must not have, and the same for each byte of a word.
use Rattle.std.specs.Prelude.{ℕ, zero, suc, ◌+◌, ◌*◌, Bool, eqb}
use Rattle.std.specs.Int.Bits.{bit_and}

-- no bit of the mask is set
unfoldable pub is_clear : (mask n : ℕ) → Bool
is_clear mask n = eqb (bit_and n mask) 0

-- a byte's mask at each of so many bytes
unfoldable pub mask_of : (size mask : ℕ) → ℕ
mask_of zero mask = 0
mask_of (suc size) mask = mask_of size mask * 256 + mask
