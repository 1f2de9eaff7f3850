-- A plan lies in the lists that were lent for it, and an answer is written as a plan or as a refusal.
use Rattle.std.specs.Prelude.{◌≡◌, refl, List, ℕ, ◌-◌, ◌*◌, ◌≤◌, Float, length, Ok, Err}
use Rattle.std.proofs.Common.{ap, sym, subst, arith}
use Rattle.grid.specs.declared.validate.Recording.{Recording}
use Rattle.silence_list.specs.declared.config.SegmentConfig.{SegmentConfig}
use Rattle.plan_settings.specs.declared.config.PlanConfig.{PlanConfig}
use Rattle.plan_pieces.specs.Answer.{Answer, error_number, number_of}
use Rattle.plan_pieces.specs.declared.answer.Error.{Error}
use Rattle.plan_pieces.specs.Output.{Output, Handed, handed_of}
use Rattle.job.specs.Limits.{most_frames}
use Rattle.listing.specs.Listing.{listing_of, refusal_line}
use Rattle.cutplan.specs.Memory.{handed_within}
use Rattle.cutplan.specs.MemoryLaws.{planned-room}
use Rattle.cutplan.specs.Lines.{lines_for, lent_output, lines_of_plan, refused_of_plan}
use Rattle.cutplan.specs.Roomy.{Roomy}

-- what Plan leaves in the program's lists has room there
pub roomy : (r : Recording) (segment : SegmentConfig) (settings : PlanConfig) (values : List Float) (flags : List ℕ) (levels : List Float) (a : Answer) (out : Output)
    → handed_of a out ≡ handed_within r segment settings values flags levels lent_output → length out.pieces ≡ 1533 → length out.cuts ≡ 1533
    → Roomy a (length out.pieces) (length out.cuts)
unfolding handed_within
roomy r segment settings values flags levels (Ok n) out e p c =
    let room = planned-room r segment settings values flags levels lent_output n (sym (ap (λ (h : Handed). h.answer) e)) in
    (omega (arith, room.0, p), omega (arith, room.1, c), omega (arith, room.0))
roomy r segment settings values flags levels (Err error) out e p c = tt

-- of a plan of n pieces
pub planned_roomy : (a : Answer) (n pieces cuts : ℕ) → a ≡ Ok n → Roomy a pieces cuts → (3 * n ≤ pieces) × (3 * (n - 1) ≤ cuts) × (n ≤ most_frames)
planned_roomy a n pieces cuts e h = subst (λ (b : Answer). Roomy b pieces cuts) e h

-- ---- the lines

-- an answer with a plan has the lines of its listing
pub planned_lines : (a : Answer) (n : ℕ) (out : Output) → a ≡ Ok n → listing_of n out.pieces out.cuts ≡ lines_for a out
unfolding lines_for
planned_lines a n out e = rw e

-- an answer that is no plan
pub refused_lines : (a : Answer) (out : Output) → ((n : ℕ) → a ≡ Ok n → ⊥) → refusal_line (number_of a) ≡ lines_for a out
unfolding lines_for
refused_lines (Ok n) out never = absurd (never n refl)
refused_lines (Err error) out never = refl

-- an error has the line of its number
pub error_lines : (a : Answer) (error : Error) (out : Output) → a ≡ Err error → (refusal_line (error_number error) ≡ lines_for a out) × (error_number error ≡ number_of a)
unfolding lines_for
error_lines a error out e = (rw e, rw e)

-- ---- of what was handed out

-- its lines
pub handed_lines : (r : Recording) (segment : SegmentConfig) (settings : PlanConfig) (values : List Float) (flags : List ℕ) (levels : List Float) (a : Answer) (out : Output)
    → handed_of a out ≡ handed_within r segment settings values flags levels lent_output → lines_for a out ≡ lines_of_plan r segment settings values flags levels
handed_lines r segment settings values flags levels a out e = ap (λ (h : Handed). lines_for h.answer h.out) e

-- and its number
pub handed-number : (r : Recording) (segment : SegmentConfig) (settings : PlanConfig) (values : List Float) (flags : List ℕ) (levels : List Float) (a : Answer) (out : Output)
    → handed_of a out ≡ handed_within r segment settings values flags levels lent_output → number_of a ≡ refused_of_plan r segment settings values flags levels
handed-number r segment settings values flags levels a out e = ap (λ (h : Handed). number_of h.answer) e
