-- What is claimed of `cutplan`, for every input, with no hypothesis but what the reader makes of it.
--   bytes-are         no bytes, a job, or others that are no job: for each of these one of the next holds
--   cutplan-empty     what is printed for no bytes is `plan 0 0`; cutplan-no-frames: as for every recording without frames that is not refused,
--                     and cutplan-empty-span: for every one whose span is empty
--   never-short       of a job that is read, Plan never says 12 or 13: the lists that it is lent are long enough; cutplan-never-short: no input has such a number
--   cutplan-parsed    what is printed for an accepted job, parsed, is the plan's pieces and cuts
--   cutplan-refused   what is printed for one that Plan refuses, parsed, is its number
--   cutplan-unread    bytes that are no job, one at least, are refused by 19; cutplan-few-bytes: 1 to 26 bytes always are
--   cutplan-number-most, cutplan-number-line, cutplan-number-plan
--                     the number that goes with what is printed (`refused_in`) is at most 19, is that of the line that is printed,
--                     and is 0 only where a plan is printed
--   cutplan-encoded   of every job within the limits, encoded, that job's lines are printed
use Rattle.std.specs.Prelude.{◌≡◌, Bool, true, false, ℕ, ◌-◌, ◌≤◌, ◌<◌, Float, length, get_or, Result, Ok, Err, is_ok}
use Rattle.std.proofs.Math.Path.{refl, sym, ap}
use Rattle.std.proofs.Common.{subst, ◌∙◌, inl, inr, arith}
use mathlib.Core.List.{List, []}
use Rattle.std.proofs.Math.Option.{some}
use Rattle.std.proofs.Math.Dec.{T}
use Rattle.std.specs.Float.{Format, nan}
use Rattle.std.specs.Float.Ieee.{binary32, binary64, fits}
use Rattle.std.specs.Float.Ieee.Bits.{of_bits-fits}
use Rattle.std.specs.Float.Ieee.Fits.{nan-fits}
use Rattle.std.proofs.Math.ListN.{get_or-eq_default}
use Rattle.base_terms.specs.Lists.{tabulate}
use Rattle.base_code.specs.FrontLaws.{tabulate-length, tabulate-at}
use Rattle.base_laws.specs.Tests.{holds, lt_or_le}
use Rattle.grid.specs.declared.validate.Domain.{Domain}
use Rattle.grid.specs.declared.validate.Domain.TheVariants.{Decibels, Scores}
use Rattle.silence_list.specs.Silences.{silences_in}
use Rattle.plan_tests.specs.Fitting.{Fitting}
use Rattle.candidate_finder.specs.PrepareLaws.{no_frames}
use Rattle.candidate_finder.specs.SpanIn.{empty_in}
use Rattle.plan_pieces.specs.Answer.{number_of}
use Rattle.plan_pieces.specs.AnswerLaws.{answer_most}
use Rattle.planner.specs.Operation.{End}
use Rattle.plan_theorems.specs.Made.{MadeOfSpan}
use Rattle.plan_theorems.proofs.Theorems.{plan_made, plan_ended, made_of_span}
use Rattle.job.specs.Limits.{most_frames}
use Rattle.job.specs.Fields.{◌>>=◌}
use Rattle.job.specs.Job.{read_of, values_in, levels_for, levels_in, Asked, with_lists, job_of}
use Rattle.job.specs.JobLaws.{read_within, read_long, values_length}
use Rattle.job.specs.Encode.{encode, Encodable}
use Rattle.job.specs.Theorems.{fault_number_lem, read_encoded}
use Rattle.job.specs.declared.answer.Head.{Head}
use Rattle.job.specs.declared.answer.Refusal.{Refusal}
use Rattle.listing.specs.Text.{text_bytes}
use Rattle.listing.specs.Listing.{listing_of, refusal_line}
use Rattle.listing.specs.LineLaws.{no_pieces}
use Rattle.listing.specs.Rows.{ListedRow, rows_of}
use Rattle.listing.specs.Trials.{empty_plan}
use Rattle.listing_parser.specs.Parse.{parsed_of, planned, refused}
use Rattle.listing_parser.specs.ParseLaws.{parsed_listing, parsed_refusal}
use Rattle.cutplan.specs.Memory.{lent_work, lent_parents, end_within, handed_within}
use Rattle.cutplan.specs.MemoryLaws.{never_12, never_13}
use Rattle.cutplan.specs.Lines.{lines_for, lent_output, lines_of_plan, refused_of_plan}
use Rattle.cutplan.specs.RoomyLaws.{planned_lines, refused_lines}
use Rattle.cutplan.specs.Cutplan.{printed_for, cutplan_of, refused_for, refused_in}
use Rattle.cutplan.specs.CutplanLaws.{empty_printed, empty_refused, bytes_printed, bytes_refused}

-- ---- the lists of a job that was read

-- each float that is read is one of its format, and so is what stands past the end of a list
read_fits : (f : Format) (g : ℕ → Float) (n i : ℕ) → ((k : ℕ) → T (fits f (g k))) → T (fits f (get_or (tabulate g n) i nan))
read_fits f g n i each = elim (lt_or_le i n) [
  | inl h ↦ subst (λ (x : Float). T (fits f x)) (sym (tabulate-at g n i nan h)) (each i)
  | inr h ↦ subst (λ (x : Float). T (fits f x)) (sym (get_or-eq_default (tabulate g n) nan (omega (arith, h, tabulate-length g n)))) (nan-fits f)
]

module _ (job : List ℕ) (h : Head) where
  fitting : Fitting (values_in job h) (levels_in job h)
  unfolding values_in levels_in
  fitting = record {
    values_fit = λ i. read_fits binary32 _ h.frames i (λ k. of_bits-fits binary32 _);
    levels_fit = λ i. go h.recording.domain h.lists h.frames i;
  }
    where
      go : (d : Domain) (at n i : ℕ) → T (fits binary64 (get_or (levels_for job d at n) i nan))
      go Decibels at n i = read_fits binary64 _ n i (λ k. of_bits-fits binary64 _)
      go Scores at n i = nan-fits binary64

  few : read_of job ≡ Ok h → length (values_in job h) ≤ most_frames
  few e = omega (arith, values_length job h, (read_within job h e).few_frames)

-- what is known of a job: its bytes are some, its frames few, and its floats of their formats
record Asking (job : List ℕ) (a : Asked) : Type 0 where
  long : 27 ≤ length job
  few : length a.values ≤ most_frames
  fitting : Fitting a.values a.levels

-- a job, and another where there is none
abbrev asked_or : Asked → Result Asked Refusal → Asked
asked_or other (Ok a) = a
asked_or other (Err refusal) = other

asking : (job : List ℕ) (a : Asked) → job_of job ≡ Ok a → Asking job a
unfolding job_of
asking job a e = go (read_of job) refl e
  where
    go : (r : Result Head Refusal) → read_of job ≡ r → (r >>= λ (h : Head). Ok (with_lists job h)) ≡ Ok a → Asking job a
    go (Ok h) e f = subst (Asking job) (ap (asked_or a) f) (unfold with_lists in record { long = read_long job h e; few = few job h e; fitting = fitting job h })
    go (Err refusal) e f = absurd (holds (ap is_ok f))

-- ---- what bytes are

-- none, a job, or others that are no job
pub data BytesAre (job : List ℕ) : Type 0 where
  nothing : length job ≡ 0 → BytesAre job
  some_job : (a : Asked) → job_of job ≡ Ok a → BytesAre job
  no_job : 0 < length job → (refusal : Refusal) → job_of job ≡ Err refusal → BytesAre job

-- whatever the bytes
pub bytes_are : (job : List ℕ) → BytesAre job
bytes_are job = go (job_of job) refl
  where
    go : (o : Result Asked Refusal) → job_of job ≡ o → BytesAre job
    go (Ok a) e = some_job a e
    go (Err refusal) e = elim (lt_or_le 0 (length job)) [
      | inl h ↦ no_job h refusal e
      | inr h ↦ nothing (omega (arith, h))
    ]

-- ---- no bytes

-- a plan without pieces is printed, which is one when it is parsed, and no number goes with it
pub cutplan_empty : (cutplan_of [] ≡ text_bytes "plan 0 0\n") × (parsed_of (cutplan_of []) ≡ some (planned [] [])) × (refused_in [] ≡ 0)
unfolding tabulate
cutplan_empty =
    let printed : cutplan_of [] ≡ listing_of 0 [] [] = sym (empty_printed [] refl) ∙ sym (no_pieces [] []) in
    (printed ∙ empty_plan, ap parsed_of printed ∙ parsed_listing 0 [] [] (λ i l. absurd (omega (arith, l))) (λ i l. absurd (omega (arith, l))), sym (empty_refused [] refl))

module _ (a : Asked) (accepted : refused_of_plan a.recording a.segment a.settings a.values a.flags a.levels ≡ 0) where
  -- the same is printed for every recording whose span is empty, unless it is refused
  pub cutplan_empty_span : empty_in a.recording a.segment a.settings a.values a.flags ≡ true
      → lines_of_plan a.recording a.segment a.settings a.values a.flags a.levels ≡ cutplan_of []
  unfolding handed_within
  cutplan_empty_span is-empty =
      let end = end_within a.recording a.segment a.settings a.values a.flags a.levels lent_output in
      let made = (plan_ended a.recording a.segment a.settings a.values a.flags a.levels lent_output lent_work lent_parents).number.0 accepted in
      let no_piece = ((plan_made a.recording a.segment a.settings a.values a.flags a.levels lent_output lent_work lent_parents made.0 made.1).empty is-empty).0 in
      sym (planned_lines end.answer 0 end.out (made.1 ∙ ap Ok no_piece)) ∙ no_pieces end.out.pieces end.out.cuts ∙ empty_printed [] refl

  -- so it is for every recording without frames
  pub cutplan_no_frames : length a.values ≡ 0 → lines_of_plan a.recording a.segment a.settings a.values a.flags a.levels ≡ cutplan_of []
  cutplan_no_frames none =
      cutplan_empty_span (no_frames a.settings.gap (length a.values) (silences_in a.recording a.segment a.values a.flags) none)

-- ---- the answer

module _ (job : List ℕ) (a : Asked) (read : job_of job ≡ Ok a) where
  -- what Plan leaves in the lists that it is lent
  abbrev pub end_for : End
  end_for = end_within a.recording a.segment a.settings a.values a.flags a.levels lent_output

  -- it has bytes
  some_bytes : length job ≡ 0 → ⊥
  some_bytes none = omega (arith, none, (asking job a read).long)

  -- its lines are printed
  pub job_lines : cutplan_of job ≡ lines_for end_for.answer end_for.out
  unfolding printed_for handed_within
  job_lines = rw (bytes_printed job some_bytes, read)

  -- and the number that goes with them is that of Plan's answer
  pub job_number : refused_in job ≡ number_of end_for.answer
  unfolding refused_for handed_within
  job_number = rw (bytes_refused job some_bytes, read)

  -- Plan never says 12 or 13 of a job that is read
  pub never_short : (number_of end_for.answer ≡ 12 → ⊥) × (number_of end_for.answer ≡ 13 → ⊥)
  never_short =
      let known = asking job a read in (
        never_12 a.recording a.segment a.settings a.values a.flags a.levels lent_output known.fitting (omega (arith, known.few), omega (arith, known.few)),
        never_13 a.recording a.segment a.settings a.values a.flags a.levels lent_output known.few,
      )

  -- ---- a plan

  module _ (n : ℕ) (made : end_for.answer ≡ Ok n) where
    -- one that has a piece is that of a span
    pub of_span : 0 < n → MadeOfSpan a.recording a.segment a.settings a.values a.flags a.levels n end_for.out
    of_span pieces =
        made_of_span a.recording a.segment a.settings a.values a.flags a.levels n lent_output end_for.out
        (plan_made a.recording a.segment a.settings a.values a.flags a.levels lent_output lent_work lent_parents n made) (asking job a read).fitting pieces

    -- what is printed for it, parsed, is its pieces and cuts
    pub cutplan_parsed : parsed_of (cutplan_of job) ≡ some (planned (rows_of n end_for.out.pieces) (rows_of (n - 1) end_for.out.cuts))
    cutplan_parsed =
        ap parsed_of (job_lines ∙ sym (planned_lines end_for.answer n end_for.out made))
        ∙ parsed_listing n end_for.out.pieces end_for.out.cuts
        (λ i l. omega (arith, (of_span (omega (arith, l))).flagged.one i l))
        (λ i l. (of_span (omega (arith, l))).reasoned i (omega (arith, l)))

  -- ---- a refusal of Plan

  -- what is printed for a refusal, parsed, is its number
  pub cutplan_refused : ((n : ℕ) → end_for.answer ≡ Ok n → ⊥) → parsed_of (cutplan_of job) ≡ some (refused (number_of end_for.answer))
  cutplan_refused never =
      ap parsed_of (job_lines ∙ sym (refused_lines end_for.answer end_for.out never)) ∙ parsed_refusal (number_of end_for.answer)

-- ---- bytes that are no job, one at least

module _ (job : List ℕ) (some_bytes : 0 < length job) (refusal : Refusal) (unread : job_of job ≡ Err refusal) where
  not_empty : length job ≡ 0 → ⊥
  not_empty none = omega (arith, some_bytes, none)

  -- the line of 19 is printed
  pub fault_line : cutplan_of job ≡ refusal_line 19
  unfolding printed_for
  fault_line = rw (bytes_printed job not_empty, unread, fault_number_lem refusal.fault)

  -- and 19 is the number that goes with it
  pub fault_refusal : refused_in job ≡ 19
  unfolding refused_for
  fault_refusal = rw (bytes_refused job not_empty, unread) (fault_number_lem refusal.fault)

  -- so they are refused by 19
  pub cutplan_unread : parsed_of (cutplan_of job) ≡ some (refused 19)
  cutplan_unread = ap parsed_of fault_line ∙ parsed_refusal 19

-- too few for the numbers of a recording: "One byte is still refusal 19"
pub cutplan_few_bytes : (job : List ℕ) → 0 < length job → length job < 27 → parsed_of (cutplan_of job) ≡ some (refused 19)
cutplan_few_bytes job some_bytes few_bytes = go (bytes_are job)
  where
    go : BytesAre job → parsed_of (cutplan_of job) ≡ some (refused 19)
    go (nothing e) = absurd (omega (arith, some_bytes, e))
    go (some_job a e) = absurd (omega (arith, few_bytes, (asking job a e).long))
    go (no_job s refusal e) = cutplan_unread job s refusal e

-- ---- the number that goes with what is printed, whatever the bytes

-- no number is above 19
pub cutplan_number_most : (job : List ℕ) → refused_in job ≤ 19
cutplan_number_most job = go (bytes_are job)
  where
    go : BytesAre job → refused_in job ≤ 19
    go (nothing e) = omega (arith, empty_refused job e)
    go (some_job a e) = omega (arith, job_number job a e, answer_most (end_for job a e).answer)
    go (no_job s refusal e) = omega (arith, fault_refusal job s refusal e)

-- it is never 12 or 13
pub cutplan_never_short : (job : List ℕ) → (refused_in job ≡ 12 → ⊥) × (refused_in job ≡ 13 → ⊥)
cutplan_never_short job = go (bytes_are job)
  where
    go : BytesAre job → (refused_in job ≡ 12 → ⊥) × (refused_in job ≡ 13 → ⊥)
    go (nothing e) = (λ n. omega (arith, n, empty_refused job e), λ n. omega (arith, n, empty_refused job e))
    go (some_job a e) =
        let number = sym (job_number job a e) in (λ n. (never_short job a e).0 (number ∙ n), λ n. (never_short job a e).1 (number ∙ n))
    go (no_job s refusal e) =
        let number = fault_refusal job s refusal e in (λ n. omega (arith, n, number), λ n. omega (arith, n, number))

-- where it is not 0, what is printed is its line
pub cutplan_number_line : (job : List ℕ) → (refused_in job ≡ 0 → ⊥) → cutplan_of job ≡ refusal_line (refused_in job)
cutplan_number_line job other = go (bytes_are job)
  where
    go : BytesAre job → cutplan_of job ≡ refusal_line (refused_in job)
    go (nothing e) = absurd (other (sym (empty_refused job e)))
    go (some_job a e) =
        let number = job_number job a e in
        job_lines job a e
        ∙ sym (refused_lines (end_for job a e).answer (end_for job a e).out (λ n made. other (number ∙ ap number_of made)))
        ∙ ap refusal_line (sym number)
    go (no_job s refusal e) = fault_line job s refusal e ∙ ap refusal_line (sym (fault_refusal job s refusal e))

-- where it is 0, what is printed, parsed, is a plan
pub cutplan_number_plan : (job : List ℕ) → refused_in job ≡ 0 → (pieces : List ListedRow) × (cuts : List ListedRow) × (parsed_of (cutplan_of job) ≡ some (planned pieces cuts))
cutplan_number_plan job none = go (bytes_are job)
  where
    go : BytesAre job → (pieces : List ListedRow) × (cuts : List ListedRow) × (parsed_of (cutplan_of job) ≡ some (planned pieces cuts))
    go (nothing e) = ([], [], ap parsed_of (sym (empty_printed job e) ∙ empty_printed [] refl) ∙ cutplan_empty.1)
    go (some_job a e) =
        let made = (plan_ended a.recording a.segment a.settings a.values a.flags a.levels lent_output lent_work lent_parents).number.0
        (sym (job_number job a e) ∙ none) in
        (rows_of made.0 (end_for job a e).out.pieces, rows_of (made.0 - 1) (end_for job a e).out.cuts, cutplan_parsed job a e made.0 made.1)
    go (no_job s refusal e) = absurd (omega (arith, none, fault_refusal job s refusal e))

-- ---- jobs that are written as bytes

-- that job's lines are printed
pub cutplan_encoded : (j : Asked) → Encodable j
    → cutplan_of (encode j) ≡ lines_of_plan j.recording j.segment j.settings j.values j.flags j.levels
unfolding handed_within
cutplan_encoded j e = job_lines (encode j) j (read_encoded j e)
