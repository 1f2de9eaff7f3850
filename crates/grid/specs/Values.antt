-- Refusal 5's ranges, for one element each. A NaN is outside every one of them: every comparison with it is false.
use Rattle.std.specs.Prelude.{ℕ, Bool, ◌&&◌, true, false, leb, eqb, pos, Float}
use Rattle.std.specs.Float.{inf, fin}
use Rattle.std.specs.Float.Ieee.{le, lt}

-- a score lies within 0 to 1
unfoldable pub is_score : Float → Bool
is_score x = le (fin false 0 (pos 0)) x && le x (fin false 1 (pos 0))

-- a decibel or a level lies between the infinities
unfoldable pub is_finite : Float → Bool
is_finite x = lt (inf true) x && lt x (inf false)

-- a flag byte is 0 or 1
unfoldable pub is_flag : ℕ → Bool
is_flag b = leb b 1

-- a flag byte of a score is 0
unfoldable pub is_unflagged : ℕ → Bool
is_unflagged b = eqb b 0
