-- Document 01's program `cutplan`, from the bytes of a job to those of its listing: `cutplan_of`.
use Rattle.std.specs.Prelude.{ℕ, Bool, cond, List, eqb, ltb, length, Result, Ok, Err}
use Rattle.base_terms.specs.Lists.{onto}
use Rattle.job.specs.Answer.{fault_number}
use Rattle.job.specs.Job.{Asked, job_of}
use Rattle.job.specs.declared.answer.Refusal.{Refusal}
use Rattle.listing.specs.Listing.{plan_line, refusal_line}
use Rattle.cutplan.specs.Lines.{longest_listing, lines_of_plan, refused_of_plan}

-- the lines for a job, or that of refusal 19
unfoldable pub printed_for : Result Asked Refusal → List ℕ
printed_for (Ok a) = lines_of_plan a.recording a.segment a.settings a.values a.flags a.levels
printed_for (Err refusal) = refusal_line (fault_number refusal.fault)

-- what `cutplan` prints for the bytes that it reads
-- document 02, S-2: "A job of 0 bytes then means an empty recording, and `cutplan` prints `plan 0 0`."
unfoldable pub cutplan_of : List ℕ → List ℕ
cutplan_of job = cond (eqb (length job) 0) (plan_line 0 0) (printed_for (job_of job))

-- the number of a job's refusal, 19 where there is no job, and 0 where there is a plan
unfoldable pub refused_for : Result Asked Refusal → ℕ
refused_for (Ok a) = refused_of_plan a.recording a.segment a.settings a.values a.flags a.levels
refused_for (Err refusal) = fault_number refusal.fault

-- that of what `cutplan` prints for the bytes that it reads; 0 for no bytes, since a plan is printed
unfoldable pub refused_in : List ℕ → ℕ
refused_in job = cond (eqb (length job) 0) 0 (refused_for (job_of job))

-- ---- into a lent list

-- how many bytes the listing has, and the list that it was written to
pub record Printed : Type 0 where
  pub size : ℕ
  pub listing : List ℕ

-- what was printed, from its two parts
abbrev pub printed : ℕ → List ℕ → Printed
printed size listing = record { size = size; listing = listing }

-- one of two, by a test
abbrev pub pick_printed : Bool → Printed → Printed → Printed
pick_printed test a b = cond test a b

-- the listing at the front of a lent list, which is untouched beyond it; nothing where the list could be too short for some listing
unfoldable pub printed_into : List ℕ → List ℕ → Printed
printed_into job listing =
    pick_printed (ltb (length listing) longest_listing) (printed 0 listing)
    (printed (length (cutplan_of job)) (onto (cutplan_of job) listing))
