-- A piece's flags, `s` short and `l` long, by document 01 and document 02's S-5. They are made here and nowhere else.
-- "The over-long flag is always set against the maximum, never the reach."
-- "The remainder at the end of a tape isn't a short piece."
-- The minimum is what `samples_in` gives, the maximum what `samples_floor` gives; they are compared as the Rust's `to_plan` does, the minimum as a float; the Rust has no tail.
use Rattle.std.specs.Prelude.{ℕ, suc, ◌+◌, Bool, ◌&&◌, ◌||◌, not, cond, ltb, leb, eqb, pos, Float}
use Rattle.std.specs.Float.{binary64}
use Rattle.std.specs.Float.Ieee.{lt, of_int}

-- a piece of this length is shorter than the minimum
abbrev pub is_shorter : Float → ℕ → Bool
is_shorter least len = lt (of_int binary64 (pos len)) least

-- a piece of this length is longer than the maximum
abbrev pub is_longer : ℕ → ℕ → Bool
is_longer most len = ltb most len

-- the tail: piece i of k is "the last piece of a plan with two or more pieces"
unfoldable pub is_tail : ℕ → ℕ → Bool
is_tail k i = leb 2 k && eqb (suc i) k

-- short: not the tail, and shorter than the minimum
abbrev pub IsShort : Bool → Float → ℕ → Bool
IsShort tail least len = not tail && is_shorter least len

-- flag `s`
unfoldable pub short_flag : Bool → Float → ℕ → ℕ
short_flag tail least len = cond (IsShort tail least len) 1 0

-- flag `l`
unfoldable pub long_flag : ℕ → ℕ → ℕ
long_flag most len = cond (is_longer most len) 2 0

-- both as one number
unfoldable pub flags_of : Bool → Float → ℕ → ℕ → ℕ
flags_of tail least most len = short_flag tail least len + long_flag most len

-- ---- each flag of a number of flags

-- `l` stands
abbrev pub has_long : ℕ → Bool
has_long flags = leb 2 flags

-- `s` stands
abbrev pub has_short : ℕ → Bool
has_short flags = eqb flags 1 || eqb flags 3
