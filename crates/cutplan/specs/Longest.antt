-- No listing is longer than `longest_listing`, whatever the input: a plan has at most 511 pieces, and no number of it has more than 64 bits.
use Rattle.std.specs.Prelude.{◌≡◌, refl, List, ℕ, suc, ◌-◌, ◌≤◌, ◌<◌, length, Ok, Err}
use Rattle.std.proofs.Common.{sym, subst, arith}
use Rattle.base_terms.specs.Limits.{IsU64}
use Rattle.grid.specs.Boundary.{boundary_of}
use Rattle.grid.specs.BoundaryLaws.{boundary_le_len}
use Rattle.grid.specs.Validate.{grid_of}
use Rattle.grid.specs.declared.boundary.FrameGrid.{FrameGrid}
use Rattle.path_pieces.specs.declared.mode.Mode.{Mode}
use Rattle.path_pieces.specs.declared.mode.Mode.TheVariants.{ByLength, ByCount}
use Rattle.candidate_span.specs.Gaps.{Cut}
use Rattle.candidate_span.specs.Span.{Span, span_of}
use Rattle.candidate_finder.specs.SpanIn.{padding_in}
use Rattle.silence_list.specs.Silences.{silences_in}
use Rattle.plan_tests.specs.PlanReady.{PlanReady, passed_ready}
use Rattle.plan_tests.specs.RefusalLaws.{passed}
use Rattle.plan_pieces.specs.Answer.{Answer, number_of}
use Rattle.plan_pieces.specs.AnswerLaws.{answer_most}
use Rattle.plan_pieces.specs.Output.{Output}
use Rattle.plan_pieces.specs.declared.answer.Error.TheVariants.{Refused, ShortParent, ShortOutput}
use Rattle.plan_theorems.specs.Made.{piece_start, piece_end, Shows, PlanWritten}
use Rattle.plan_theorems.proofs.Theorems.{plan_made, plan_ended}
use Rattle.job.specs.Job.{Asked, job_of}
use Rattle.listing.specs.Listing.{plan_line, listing_of, refusal_line}
use Rattle.listing.specs.Rows.{AllWide}
use Rattle.listing.proofs.FitsLaws.{plan_fits, listing_fits, refusal_fits}
use Rattle.cutplan.specs.Memory.{lent_work, lent_parents}
use Rattle.cutplan.specs.Lines.{longest_listing, lines_for, lent_output}
use Rattle.cutplan.specs.Cutplan.{cutplan_of}
use Rattle.cutplan.specs.CutplanLaws.{empty_printed}
use Rattle.cutplan.specs.WideLaws.{wide_rows}
use Rattle.cutplan.specs.Theorems.{BytesAre, nothing, some_job, no_job, bytes_are, end_for, job_lines, of_span, fault_line}

module _ (job : List ℕ) (a : Asked) (read : job_of job ≡ Ok a) where
  abbrev out : Output
  out = (end_for job a read).out

  abbrev g : FrameGrid
  g = grid_of a.recording (length a.values)

  abbrev s : Span
  s = span_of a.settings.gap (padding_in a.recording a.segment a.settings (length a.values)) (silences_in a.recording a.segment a.values a.flags)

  module _ (n : ℕ) (made : (end_for job a read).answer ≡ Ok n) where
    written : PlanWritten n lent_output out
    written = (plan_made a.recording a.segment a.settings a.values a.flags a.levels lent_output lent_work lent_parents n made).written

    ready : PlanReady a.recording a.segment a.settings a.values a.flags a.levels (length lent_work.u32s) (length lent_work.u64s) (length lent_work.f64s)
    ready =
        passed_ready a.recording a.segment a.settings a.values a.flags a.levels _ _ _
        (passed a.recording a.segment a.settings a.values a.flags a.levels _ _ _
        ((plan_ended a.recording a.segment a.settings a.values a.flags a.levels lent_output lent_work lent_parents).accepted n made))

    -- a boundary lies within the recording, which has at most 2^40 samples
    boundary_wide : (k : ℕ) → IsU64 (boundary_of g k)
    boundary_wide k = omega (arith, boundary_le_len g ready.accepted k, ready.length_bounded)

    -- pieces and cuts stand at boundaries
    shown : 0 < n → (cuts : List Cut) × Shows g s cuts n out
    shown pieces = go a.settings.mode refl
      where
        go : (m : Mode) → a.settings.mode ≡ m → (cuts : List Cut) × Shows g s cuts n out
        go ByLength e = let d = (of_span job a read n made pieces).demand_by_length e in (d.0, d.1)
        go (ByCount count) e = let d = (of_span job a read n made pieces).demand_by_count count e in (d.0, d.1)

    piece_wide : (k : ℕ) → k < n → IsU64 (piece_start out k) × IsU64 (piece_end out k)
    piece_wide k h =
        let shows = (shown (omega (arith, h))).1 in
        (subst IsU64 (sym (shows.piece_start_lem k h)) (boundary_wide _), subst IsU64 (sym (shows.piece_end_lem k h)) (boundary_wide _))

    pieces_wide : AllWide out.pieces
    pieces_wide = wide_rows out.pieces n 1533 written.pieces
        (λ k h. ((piece_wide k h).0, (piece_wide k h).1, omega (arith, (of_span job a read n made (omega (arith, h))).flagged.one k h)))

    cuts_wide : AllWide out.cuts
    cuts_wide = wide_rows out.cuts (n - 1) 1533 written.cuts
        (λ k h.
        let span = of_span job a read n made (omega (arith, h)) in
        let lies = span.fills.cuts k (omega (arith, h)) in (
          subst IsU64 (sym lies.0) (piece_wide k (omega (arith, h))).1,
          subst IsU64 (sym lies.1) (piece_wide (suc k) (omega (arith, h))).0,
          omega (arith, span.reasoned k (omega (arith, h))),
        ))

    plan_short : length (listing_of n out.pieces out.cuts) ≤ longest_listing
    plan_short = omega (arith, listing_fits n out.pieces out.cuts (omega (arith, written.fits.0)) pieces_wide cuts_wide, written.fits.0)

  answer-short : (b : Answer) → (end_for job a read).answer ≡ b → length (lines_for b out) ≤ longest_listing
  unfolding lines_for
  answer-short (Ok n) e = plan_short n e
  answer-short (Err (Refused v)) e = omega (arith, refusal_fits (number_of (Err (Refused v))) (omega (arith, answer_most (Err (Refused v)))))
  answer-short (Err ShortParent) e = omega (arith, refusal_fits 14 (omega arith))
  answer-short (Err ShortOutput) e = omega (arith, refusal_fits 12 (omega arith))

-- whatever the input
pub cutplan_short : (job : List ℕ) → length (cutplan_of job) ≤ longest_listing
cutplan_short job = go (bytes_are job)
  where
    short : (text : List ℕ) → cutplan_of job ≡ text → length text ≤ longest_listing → length (cutplan_of job) ≤ longest_listing
    short text e h = subst (λ (printed : List ℕ). length printed ≤ longest_listing) (sym e) h

    go : BytesAre job → length (cutplan_of job) ≤ longest_listing
    go (nothing e) = short (plan_line 0 0) (sym (empty_printed job e)) (omega (arith, plan_fits 0 0 (omega arith) (omega arith)))
    go (some_job a e) = short _ (job_lines job a e) (answer-short job a e (end_for job a e).answer refl)
    go (no_job s refusal e) = short (refusal_line 19) (fault_line job s refusal e) (omega (arith, refusal_fits 19 (omega arith)))
