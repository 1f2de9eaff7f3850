-- Numbers that rise strictly are apart, so silences of a list are not empty, are apart, and are within the frame count.
use Rattle.std.specs.Prelude.{◌≡◌, List, ℕ, zero, suc, ◌+◌, ◌*◌, ◌≤◌, ◌<◌, length, drop, get_or}
use Rattle.std.proofs.Common.{ap, ◌∙◌, arith, get_or-take, get_or-drop}
use Rattle.std.proofs.Math.ListN.{length-drop}
use Rattle.std.specs.Simd.{first_chunks}
use Rattle.silence_runs.specs.Silences.{silences_of}
use Rattle.silence_runs.specs.SilencesLaws.{Rising, rising_most, rising_apart, silences_rise, silences-length}
use Rattle.candidate_span.specs.Listed.{silence_count, start_at, end_at}

-- what a list of silences of n frames is known to be: two numbers for each silence, which rise strictly up to the frame count: no silence is empty, and a frame at least lies between two
pub record Listed (n : ℕ) (ss : List ℕ) : Type 0 where
  pub even : length ss ≡ 2 * silence_count ss
  pub rises : Rising 0 n ss

-- ---- silences by number

module _ {n : ℕ} {ss : List ℕ} (l : Listed n ss) where
  -- no silence is empty
  pub listed-own : (i : ℕ) → i < silence_count ss → start_at ss i < end_at ss i
  listed-own i h = rising_apart 0 n ss (2 * i) (2 * i + 1) l.rises (omega arith) (omega (arith, l.even))

  -- a silence ends before a later one starts
  pub listed_apart : (i j : ℕ) → i < j → j < silence_count ss → end_at ss i < start_at ss j
  listed_apart i j h k = rising_apart 0 n ss (2 * i + 1) (2 * j) l.rises (omega arith) (omega (arith, l.even))

  -- all are within the frame count
  pub listed-within : (i : ℕ) → i < silence_count ss → end_at ss i ≤ n
  listed-within i h = rising_most 0 n ss (2 * i + 1) l.rises (omega (arith, l.even))

-- the silences of n sound flags are such a list
pub silences-listed : (sound : List ℕ) → Listed (length sound) (silences_of sound)
silences-listed sound = record { even = omega (arith, silences-length sound); rises = silences_rise sound }

-- ---- the list in pairs, one for each silence

-- the two numbers of pair i are its start and its end
pub pair_at : (n : ℕ) (xs : List ℕ) (i j : ℕ) (d : List ℕ) → i < n → j < 2 → 2 * n ≤ length xs → get_or (get_or (first_chunks 2 n xs) i d) j 0 ≡ get_or xs (2 * i + j) 0
pair_at zero xs i j d h m l = absurd (omega arith)
pair_at (suc n) xs zero j d h m l = get_or-take 2 xs j 0 m ∙ ap (λ (k : ℕ). get_or xs k 0) (omega arith)
pair_at (suc n) xs (suc i) j d h m l =
    pair_at n (drop 2 xs) i j d (omega arith) m (omega (arith, length-drop 2 xs)) ∙ get_or-drop 2 xs (2 * i + j) 0 ∙ ap (λ (k : ℕ). get_or xs k 0) (omega arith)
