-- What the program makes of what it read, and what it ends with.
use Rattle.std.specs.Prelude.{◌≡◌, ◌⊎◌, List, ℕ, ◌<◌, ℤ, pos, length, take, Result, Ok, Err}
use Rattle.std.specs.declared.io.Error.{Error}
use Rattle.job.specs.Limits.{most_bytes}
use Rattle.listing.specs.Listing.{refusal_line}
use Rattle.cutplan.specs.Cutplan.{cutplan_of, refused_in}
use Rattle.input_reader.specs.Input.{Reads}

-- what is printed for a list that input was read to: `cutplan_of` of the bytes that were read, or 19 where a read failed
abbrev pub printed_after : Result ℕ Error → List ℕ → List ℕ
printed_after (Ok n) buffer = cutplan_of (take n buffer)
printed_after (Err error) buffer = refusal_line 19

-- the number of the refusal that this is, 0 where it is a plan
abbrev pub refused_after : Result ℕ Error → List ℕ → ℕ
refused_after (Ok n) buffer = refused_in (take n buffer)
refused_after (Err error) buffer = 19

-- 0, or 1 where the listing was not written whole
abbrev pub IsStatus : ℤ → Type 0
IsStatus status = (status ≡ pos 0) ⊎ (status ≡ pos 1)

-- what the program ends with: it read to a list with room for more than a job's most bytes, and hands over the number for what it read
pub record Ran (status : ℤ) (refused : ℕ) : Type 0 where
  pub before : List ℕ
  pub got : Result ℕ Error
  pub buffer : List ℕ
  pub read : Reads 0 before got buffer
  pub room : most_bytes < length buffer
  pub number : refused ≡ refused_after got buffer
  pub ends : IsStatus status
