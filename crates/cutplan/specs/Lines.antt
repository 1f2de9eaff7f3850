-- What `cutplan` prints for an answer of Plan: the lines of the plan, or that of the refusal.
use Rattle.std.specs.Prelude.{ℕ, zero, suc, List, Float, Option, None, Some, replicate, Ok, Err}
use Rattle.grid.specs.declared.validate.Recording.{Recording}
use Rattle.silence_list.specs.declared.config.SegmentConfig.{SegmentConfig}
use Rattle.plan_settings.specs.declared.config.PlanConfig.{PlanConfig}
use Rattle.plan_pieces.specs.Answer.{Answer, error_number, number_of}
use Rattle.plan_pieces.specs.Output.{Output, output_of}
use Rattle.listing.specs.Listing.{listing_of, refusal_line}
use Rattle.cutplan.specs.Memory.{handed_within}

-- no listing is longer: `room_for` (listing/specs/Listing) of 511 pieces
abbrev pub longest_listing : ℕ
longest_listing = 53702

-- the lines of an answer with its output
unfoldable pub lines_for : Answer → Output → List ℕ
lines_for (Ok n) out = listing_of n out.pieces out.cuts
lines_for (Err error) out = refusal_line (error_number error)

-- the refusal that a number says: none for 0, which is the number of a plan
unfoldable pub refusal_said : ℕ → Option ℕ
refusal_said zero = None
refusal_said (suc n) = Some (suc n)

-- "its other lists are large enough": three numbers for a piece, and for a cut, at each of 511 frames
abbrev pub lent_output : Output
lent_output = output_of (replicate 1533 0) (replicate 1533 0)

-- ---- of a recording and settings

-- the lines of its plan, or that of its refusal
abbrev pub lines_of_plan : Recording → SegmentConfig → PlanConfig → List Float → List ℕ → List Float → List ℕ
lines_of_plan r segment settings values flags levels =
    lines_for (handed_within r segment settings values flags levels lent_output).answer (handed_within r segment settings values flags levels lent_output).out

-- the number of the refusal, 0 where there is a plan
abbrev pub refused_of_plan : Recording → SegmentConfig → PlanConfig → List Float → List ℕ → List Float → ℕ
refused_of_plan r segment settings values flags levels = number_of (handed_within r segment settings values flags levels lent_output).answer
