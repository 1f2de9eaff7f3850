-- The ends of `cutplan`: a lent list that is too short, no bytes, a job that was read, bytes that are none.
use Rattle.std.specs.Prelude.{◌≡◌, List, ℕ, ◌≤◌, ◌<◌, length, take, drop, None, Some, Ok, Err}
use Rattle.std.proofs.Common.{ap, sym, ◌∙◌, arith, eq-eqb, ne_eqb, lt-ltb, le-ltb, length-append, length-take-le}
use Rattle.base_terms.specs.Lists.{onto}
use Rattle.base_code.specs.FrontLaws.{onto-take}
use Rattle.io.specs.Counts.{IsPrefixLen}
use Rattle.job.specs.Answer.{fault_number}
use Rattle.job.specs.Job.{read_of, with_lists, job_of}
use Rattle.job.specs.Theorems.{fault_number_lem}
use Rattle.job.specs.declared.answer.Head.{Head}
use Rattle.job.specs.declared.answer.Refusal.{Refusal}
use Rattle.listing.specs.Listing.{plan_line, refusal_line}
use Rattle.cutplan.specs.Lines.{longest_listing, refusal_said}
use Rattle.cutplan.specs.LinesLaws.{said_none, said_some}
use Rattle.cutplan.specs.Head.{lines_of_head, refused_of_head}
use Rattle.cutplan.specs.Cutplan.{printed_for, cutplan_of, refused_for, refused_in, Printed, printed, printed_into}

module _ (job : List ℕ) where
  -- for no bytes a plan without pieces is printed
  pub empty_printed : length job ≡ 0 → plan_line 0 0 ≡ cutplan_of job
  unfolding cutplan_of
  empty_printed e = rw (eq-eqb (length job) 0 e)

  -- and 0 is the number that goes with it
  pub empty_refused : length job ≡ 0 → 0 ≡ refused_in job
  unfolding refused_in
  empty_refused e = rw (eq-eqb (length job) 0 e)

  -- so no refusal is said
  pub empty_said : length job ≡ 0 → None ≡ refusal_said (refused_in job)
  empty_said e = said_none (refused_in job) (sym (empty_refused e))

  module _ (some : length job ≡ 0 → ⊥) where
    -- for others, what is printed for the job that they say
    pub bytes_printed : cutplan_of job ≡ printed_for (job_of job)
    unfolding cutplan_of
    bytes_printed = rw (ne_eqb (length job) 0 some)

    -- and the number that goes with that
    pub bytes_refused : refused_in job ≡ refused_for (job_of job)
    unfolding refused_in
    bytes_refused = rw (ne_eqb (length job) 0 some)

    -- what is printed for a job that was read
    pub job_printed : (h : Head) → read_of job ≡ Ok h → lines_of_head job h ≡ cutplan_of job
    unfolding job_of with_lists printed_for
    job_printed h e = rw (bytes_printed, e)

    -- and for bytes that are none
    pub fault_printed : (refusal : Refusal) → read_of job ≡ Err refusal → refusal_line (fault_number refusal.fault) ≡ cutplan_of job
    unfolding job_of with_lists printed_for
    fault_printed refusal e = rw (bytes_printed, e)

    -- the number that goes with a job that was read
    pub job_refused : (h : Head) → read_of job ≡ Ok h → refused_of_head job h ≡ refused_in job
    unfolding job_of with_lists refused_for
    job_refused h e = rw (bytes_refused, e)

    -- and with bytes that are none
    pub fault_refused : (refusal : Refusal) → read_of job ≡ Err refusal → fault_number refusal.fault ≡ refused_in job
    unfolding job_of with_lists refused_for
    fault_refused refusal e = rw (bytes_refused, e)

    -- which is said, since it is 19
    pub fault_said : (refusal : Refusal) → read_of job ≡ Err refusal → Some (fault_number refusal.fault) ≡ refusal_said (refused_in job)
    fault_said refusal e =
        said_some (fault_number refusal.fault) (λ none. omega (arith, fault_number_lem refusal.fault, none)) ∙ ap refusal_said (fault_refused refusal e)

-- ---- into a lent list

-- one that could be too short stays as it was
pub too_short : (job out : List ℕ) → length out < longest_listing → printed 0 out ≡ printed_into job out
unfolding printed_into
too_short job out h = rw (lt-ltb (length out) longest_listing h)

-- every other holds the listing
pub printed_into_lem : (job out after : List ℕ) (n : ℕ) → n ≡ length (cutplan_of job) → after ≡ onto (cutplan_of job) out → longest_listing ≤ length out
    → printed n after ≡ printed_into job out
unfolding printed_into
printed_into_lem job out after n f g h = rw (le-ltb (length out) longest_listing h, f, g)

-- a text at the front of a list is a part of it
pub front_counts : (text out after : List ℕ) (n : ℕ) → n ≡ length text → after ≡ onto text out → IsPrefixLen n after
unfolding onto
front_counts text out after n f g =
    let inside : n ≤ length after = omega (arith, f, ap length g, length-append text (drop (length text) out)) in
    (inside, sym (length-take-le n after inside))

-- and back, where the list is long enough
pub printed_parts : (job out after : List ℕ) (n : ℕ) → longest_listing ≤ length out → printed n after ≡ printed_into job out
    → (n ≡ length (cutplan_of job)) × (after ≡ onto (cutplan_of job) out)
unfolding printed_into
printed_parts job out after n h e =
    let whole : printed n after ≡ printed (length (cutplan_of job)) (onto (cutplan_of job) out) = e ∙ rw (le-ltb (length out) longest_listing h) in
    (ap (λ (p : Printed). p.size) whole, ap (λ (p : Printed). p.listing) whole)

-- its front is the listing
pub printed-front : (job out after : List ℕ) (n : ℕ) → longest_listing ≤ length out → printed n after ≡ printed_into job out → take n after ≡ cutplan_of job
printed-front job out after n h e = let p = printed_parts job out after n h e in rw (p.0, p.1) (onto-take (cutplan_of job) out)
