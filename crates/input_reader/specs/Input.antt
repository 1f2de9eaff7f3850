-- How input is read to its end: by one `read` after another, each behind what was read before it.
-- The contract of `read` says how many bytes an answer may stand for, and of standard input nothing of the bytes. So here stands
-- what each answer leads to and what a read leaves alone; no contract can say what the bytes are, nor that a read was made.
use Rattle.std.specs.Prelude.{◌≡◌, List, ℕ, ◌+◌, ◌-◌, ◌≤◌, ◌<◌, length, take, Result, Ok, Err, IfOk}
use Rattle.std.specs.declared.io.Error.{Error}

-- one read, which had room for a byte: what was read before it stays, and so does the list's length; its answer fits what was left
pub record ReadBehind (done : ℕ) (before : List ℕ) (answer : Result ℕ Error) (after : List ℕ) : Type 0 where
  pub room : done < length before
  pub front_stays : take done after ≡ take done before
  pub length_stays : length after ≡ length before
  pub moved : IfOk answer (λ n. n ≤ length before - done)

-- the reads from here on, behind so many bytes, and what they come to: the list is full, or a read says that the input ended,
-- that it failed, or that there are more bytes. 0 says the end of the input, more than 0 so many bytes
pub data Reads : ℕ → List ℕ → Result ℕ Error → List ℕ → Type 0 where
  full : (done : ℕ) (buffer : List ℕ) → done ≡ length buffer → Reads done buffer (Ok done) buffer
  ended : (done : ℕ) (buffer after : List ℕ) → ReadBehind done buffer (Ok 0) after → Reads done buffer (Ok done) after
  failed : (done : ℕ) (error : Error) (buffer after : List ℕ) → ReadBehind done buffer (Err error) after → Reads done buffer (Err error) after
  more : (done k : ℕ) (buffer next : List ℕ) (r : Result ℕ Error) (after : List ℕ) → 0 < k → ReadBehind done buffer (Ok k) next → Reads (done + k) next r after
      → Reads done buffer r after

-- the bytes that were read lie in a list of this length
abbrev pub FitsIn : Result ℕ Error → ℕ → Type 0
FitsIn got most = IfOk got (λ n. n ≤ most)
