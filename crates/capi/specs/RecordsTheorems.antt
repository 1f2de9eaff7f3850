-- The records of a plan that was made (PlansTheorems has when one is, and that `found` is then k): a piece's record has its start and end, and its flags against the plan's
-- minimum and maximum; a cut's has the end of the piece before it, the start of the next, and its reason.
use Rattle.std.specs.Prelude.{◌≡◌, List, ℕ, suc, ◌+◌, ◌-◌, ◌*◌, ◌≤◌, ◌<◌, Float, length, get_or, take}
use Rattle.std.proofs.Common.{ap, ◌∙◌, arith, length-take, length-take-le, get_or-take}
use Rattle.base_terms.specs.Lists.{onto}
use Rattle.base_code.specs.FrontLaws.{onto-length}
use Rattle.grid.specs.Validate.{grid_of}
use Rattle.grid.specs.declared.validate.Recording.{Recording}
use Rattle.silence_list.specs.declared.config.SegmentConfig.{SegmentConfig}
use Rattle.plan_settings.specs.declared.config.PlanConfig.{PlanConfig}
use Rattle.plan_tests.specs.Fitting.{Fitting}
use Rattle.plan_lengths.specs.PlanLengths.{minimum_in, maximum_in}
use Rattle.plan_pieces.specs.Flags.{is_tail, IsShort, is_longer}
use Rattle.plan_pieces.specs.NumbersLaws.{Numbers}
use Rattle.plan_pieces.specs.Output.{Output}
use Rattle.plan_records.specs.Records.{records_end_of}
use Rattle.plan_records.specs.RecordsLaws.{records_at, record_of}
use Rattle.plan_records.specs.Pieces.{piece_of}
use Rattle.plan_records.specs.Cuts.{cut_of}
use Rattle.plan_records.specs.declared.pieces.Piece.{Piece}
use Rattle.plan_records.specs.declared.cuts.Cut.{Cut}
use Rattle.plan_theorems.specs.Made.{piece_start, piece_end, length_at, reason_at, Made, MadeOfSpan}
use Rattle.plan_theorems.proofs.Theorems.{made_of_span}

-- of the first 3 k numbers, those of row i
front_numbers : (ns : List ℕ) (k i : ℕ) → i < k → Numbers (take (3 * k) ns) i (get_or ns (3 * i) 0) (get_or ns (3 * i + 1) 0) (get_or ns (3 * i + 2) 0)
front_numbers ns k i h =
    record {
      one = get_or-take (3 * k) ns (3 * i) 0 (omega (arith, h));
      two = get_or-take (3 * k) ns (3 * i + 1) 0 (omega (arith, h));
      three = get_or-take (3 * k) ns (3 * i + 2) 0 (omega (arith, h));
    }

-- a front that was written is as long as it should be
front_length : (n : ℕ) (before after : List ℕ) → n ≤ length before → after ≡ onto (take n after) before → length (take n after) ≡ n
front_length n before after fits e =
    let same = ap length e ∙ onto-length (take n after) before (omega (arith, length-take n after, fits)) in
    length-take-le n after (omega (arith, same, fits))

module _ (r : Recording) (segment : SegmentConfig) (settings : PlanConfig) (values : List Float) (flags : List ℕ) (levels : List Float) (k : ℕ) (before after : Output)
    (made : Made r segment settings values flags levels k before after) (fitting : Fitting values levels)
  where
    of_span : 0 < k → MadeOfSpan r segment settings values flags levels k after
    of_span pieces = made_of_span r segment settings values flags levels k before after made fitting pieces

    -- of the first 3 k numbers, record i is piece i with its flags: too short where it is below the minimum and not the last of several
    pub records_made : (records : List Piece) → k ≤ length records → (i : ℕ) (z : Piece) → i < k → get_or (records_end_of piece_of (take (3 * k) after.pieces) records).records i z
        ≡ record {
          start = piece_start after i;
          end = piece_end after i;
          too_short = IsShort (is_tail k i) (minimum_in (grid_of r (length values)) settings) (length_at after i);
          too_long = is_longer (maximum_in (grid_of r (length values)) settings) (length_at after i);
        }
    records_made records room i z h =
        let l = front_length (3 * k) before.pieces after.pieces made.written.fits.0 made.written.pieces in
        let flagged = (of_span (omega (arith, h))).flagged in
        records_at piece_of (take (3 * k) after.pieces) records i z (omega (arith, l, room)) (omega (arith, l, h))
        ∙ record_of piece_of (take (3 * k) after.pieces) (front_numbers after.pieces k i h)
        ∙ rw (flagged.short i h, flagged.long i h)

    -- of the first 3 (k - 1) numbers, record i is the cut after piece i
    pub cut_records_made : (records : List Cut) → k - 1 ≤ length records → (i : ℕ) (z : Cut) → suc i < k
        → get_or (records_end_of cut_of (take (3 * (k - 1)) after.cuts) records).records i z ≡ cut_of (piece_end after i) (piece_start after (suc i)) (reason_at after i)
    cut_records_made records room i z h =
        let l = front_length (3 * (k - 1)) before.cuts after.cuts made.written.fits.1 made.written.cuts in
        let lies = (of_span (omega (arith, h))).fills.cuts i h in
        records_at cut_of (take (3 * (k - 1)) after.cuts) records i z (omega (arith, l, room)) (omega (arith, l, h))
        ∙ record_of cut_of (take (3 * (k - 1)) after.cuts) (front_numbers after.cuts (k - 1) i (omega (arith, h)))
        ∙ rw (lies.0, lies.1)
