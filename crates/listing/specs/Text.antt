-- What a line of the listing is made of: words and numbers, as bytes in ASCII.
use Prim.Native.Char.{code}
use Rattle.std.specs.Prelude.{ℕ, zero, suc, ◌+◌, ◌/◌, ◌%◌, cond, List, [], ◌∷◌, ◌++◌, ltb}
use Prim.Native.String.{String, [] as nothing, ◌∷◌ as ◌then◌}

-- a text, byte by byte
abbrev pub text_bytes : String → List ℕ
text_bytes nothing = []
text_bytes (letter then rest) = code letter ∷ text_bytes rest

-- a digit
abbrev pub digit_of : ℕ → ℕ
digit_of n = 48 + n

-- a number in decimal, where it has no more than so many digits before its last
unfoldable pub decimal_within : ℕ → ℕ → List ℕ
decimal_within zero n = digit_of n ∷ []
decimal_within (suc most) n = cond (ltb n 10) (digit_of n ∷ []) (decimal_within most (n / 10) ++ (digit_of (n % 10) ∷ []))

-- a number in decimal, without leading zeros
unfoldable pub decimal_of : ℕ → List ℕ
decimal_of n = decimal_within n n

-- texts one behind another
unfoldable pub joined : List (List ℕ) → List ℕ
joined [] = []
joined (part ∷ parts) = part ++ joined parts
