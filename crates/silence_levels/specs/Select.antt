-- How keys are counted by their digits of 11 bits, from the top.
use Rattle.std.specs.Prelude.{◌≡◌, List, [], ◌∷◌, ℕ, zero, suc, ◌+◌, ◌*◌, ◌/◌, ◌^◌, ◌<◌, eqb, get_or, take}
use Rattle.silence_levels.specs.Sorted.{count_of, belows}
use Rattle.silence_levels.specs.declared.select.Place.{Place}
use Rattle.silence_levels.specs.declared.select.Block.{Block}

-- how many keys are q above their lowest `shift` bits
abbrev pub hits : List ℕ → ℕ → ℕ → ℕ
hits keys shift q = count_of (λ (x : ℕ). eqb (x / 2 ^ shift) q) keys

-- the same for n numbers from q on
unfoldable pub hits_from : List ℕ → ℕ → ℕ → ℕ → List ℕ
hits_from keys shift q zero = []
hits_from keys shift q (suc n) = hits keys shift q ∷ hits_from keys shift (suc q) n

-- the keys with each next digit, among those whose bits above it are `prefix`
unfoldable pub counts_of : List ℕ → ℕ → ℕ → List ℕ
counts_of keys shift prefix = hits_from keys shift (prefix * 2048) 2048

-- the sum of a table of counts
unfoldable pub total_count : List ℕ → ℕ
total_count [] = 0
total_count (c ∷ cs) = c + total_count cs

-- a digit, and a rank among the keys that have it
abbrev pub with_digit : ℕ → ℕ → Place
with_digit digit rank = record { digit = digit; rank = rank }

-- the block of a prefix, and a rank among its keys
abbrev pub with_prefix : ℕ → ℕ → Block
with_prefix prefix rank = record { prefix = prefix; rank = rank }

-- the rank falls on the digit: the counts before it, and the rank left among its own
pub record DigitFound (counts : List ℕ) (rank : ℕ) (r : Place) : Type 0 where
  pub digit : r.digit < 2048
  pub passed : total_count (take r.digit counts) + r.rank ≡ rank
  pub within : r.rank < get_or counts r.digit 0

-- the block is one of the next digit, and the rank stays on the same key
pub record Narrowed (keys : List ℕ) (shift : ℕ) (block r : Block) : Type 0 where
  pub rank : belows (r.prefix * 2 ^ shift) keys + r.rank ≡ belows (block.prefix * 2 ^ (shift + 11)) keys + block.rank
  pub within : r.rank < hits keys shift r.prefix
