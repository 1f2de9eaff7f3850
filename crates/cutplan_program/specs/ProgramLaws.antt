-- What is printed, by the way that the reading ended.
use Rattle.std.specs.Prelude.{◌≡◌, List, ℕ, ◌≤◌, ◌<◌, ℤ, length, take, Some, Result, Ok, Err}
use Rattle.std.specs.declared.io.Error.{Error}
use Rattle.std.proofs.Common.{sym, subst, arith, lt-ltb}
use Rattle.std.proofs.Math.Seq.{take-length}
use Rattle.job.specs.Job.{read_of}
use Rattle.job.specs.Limits.{most_bytes}
use Rattle.job.specs.declared.answer.Fault.TheVariants.{TooLong}
use Rattle.job.specs.Fields.{refused}
use Rattle.listing.specs.Text.{text_bytes}
use Rattle.listing.specs.Listing.{refusal_line}
use Rattle.cutplan.specs.Lines.{refusal_said}
use Rattle.cutplan.specs.LinesLaws.{said_some}
use Rattle.cutplan.specs.Cutplan.{cutplan_of, refused_in}
use Rattle.cutplan.specs.CutplanLaws.{fault_printed, fault_refused}
use Rattle.cutplan.specs.Theorems.{cutplan_empty}
use Rattle.input_reader.specs.Input.{FitsIn, Reads}
use Rattle.cutplan_program.specs.Program.{printed_after, refused_after, IsStatus, Ran}

module _ (got : Result ℕ Error) where
  -- so many bytes that were read lie in the list
  pub read_inside : (n most : ℕ) → got ≡ Ok n → FitsIn got most → n ≤ most
  read_inside n most e w = subst (λ (i : Result ℕ Error). FitsIn i most) e w

  -- for them `cutplan_of` is printed, and its number is handed over
  pub after_read : (n : ℕ) (buffer : List ℕ) → got ≡ Ok n
      → (cutplan_of (take n buffer) ≡ printed_after got buffer) × (refused_in (take n buffer) ≡ refused_after got buffer)
  after_read n buffer e = (rw e, rw e)

  -- and 19 where a read failed, be it the first
  pub after_failed : (error : Error) (buffer : List ℕ) → got ≡ Err error → (refusal_line 19 ≡ printed_after got buffer) × (19 ≡ refused_after got buffer)
  after_failed error buffer e = (rw e, rw e)

-- which is said
pub nineteen_said : Some 19 ≡ refusal_said 19
nineteen_said = said_some 19 (λ none. omega (arith, none))

-- input that ended before a byte was read is an empty recording
pub after_nothing : (buffer : List ℕ) → (text_bytes "plan 0 0\n" ≡ printed_after (Ok 0) buffer) × (0 ≡ refused_after (Ok 0) buffer)
after_nothing buffer = (sym cutplan_empty.0, sym cutplan_empty.2)

-- ---- what the program ends with

-- by the list that it read to
pub ran : {status : ℤ} {refused : ℕ} {before buffer : List ℕ} {got : Result ℕ Error} → Reads 0 before got buffer → most_bytes < length buffer
    → refused ≡ refused_after got buffer → IsStatus status → Ran status refused
ran {before = before} {buffer = buffer} {got = got} read room number ends =
    record { before = before; got = got; buffer = buffer; read = read; room = room; number = number; ends = ends }

-- ---- why the list has room for more than a job's most bytes

-- a list that was filled holds no job: so none is taken for whole that the list's end cut off
pub full_refused : (buffer : List ℕ) → most_bytes < length buffer
    → (refusal_line 19 ≡ printed_after (Ok (length buffer)) buffer) × (19 ≡ refused_after (Ok (length buffer)) buffer)
full_refused buffer h = rw (take-length buffer) (fault_printed buffer some _ too_long, fault_refused buffer some _ too_long)
  where
    some : length buffer ≡ 0 → ⊥
    some none = omega (arith, h, none)

    too_long : read_of buffer ≡ refused TooLong most_bytes
    too_long = unfold read_of in rw (lt-ltb most_bytes (length buffer) h)
