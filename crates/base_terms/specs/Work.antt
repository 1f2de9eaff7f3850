-- Document 01's three work lists as one: what an operation is lent to work in, how long each must be, and what is left there.
use Rattle.std.specs.Prelude.{Bool, ◌&&◌, List, ℕ, ◌*◌, leb, Float}
use Rattle.std.specs.Float.{binary64}
use Rattle.std.specs.Float.Ieee.{of_bits}
use Rattle.base_terms.specs.Lists.{filled}

-- the work lists
pub record Work : Type 0 where
  pub u32s : List ℕ
  pub u64s : List ℕ
  pub f64s : List Float

-- the work lists, from the three
abbrev pub work_of : List ℕ → List ℕ → List Float → Work
work_of u32s u64s f64s = record { u32s = u32s; u64s = u64s; f64s = f64s }

-- "zeroed": the whole lists, whatever stood there
abbrev pub cleared : Work → Work
cleared w = work_of (filled 0 w.u32s) (filled 0 w.u64s) (filled (of_bits binary64 0) w.f64s)

-- 13: how long each must be; n is frames + 1, or the number of candidates
abbrev pub work_length : ℕ → ℕ
work_length n = 16 * n

-- 13: the three lengths
unfoldable pub work_ok : ℕ → ℕ → ℕ → ℕ → Bool
work_ok n n32 n64 nf = leb (work_length n) n32 && leb (work_length n) n64 && leb (work_length n) nf
