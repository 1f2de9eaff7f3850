-- Document 02's S-5, of every answer `Ok` and the output that goes with it: what the short flag says of the last of several pieces, of a plan's only one, and of every other.
use Rattle.std.specs.Prelude.{◌≡◌, Bool, false, List, ℕ, suc, ◌-◌, ◌≤◌, ◌<◌, Float, length, Ok}
use Rattle.std.proofs.Common.{ap, ◌∙◌, arith}
use Rattle.base_terms.specs.Work.{Work}
use Rattle.grid.specs.Validate.{grid_of}
use Rattle.grid.specs.declared.validate.Recording.{Recording}
use Rattle.silence_list.specs.declared.config.SegmentConfig.{SegmentConfig}
use Rattle.plan_settings.specs.declared.config.PlanConfig.{PlanConfig}
use Rattle.plan_tests.specs.Fitting.{Fitting}
use Rattle.plan_lengths.specs.PlanLengths.{minimum_in}
use Rattle.plan_pieces.specs.Flags.{has_short, is_shorter, is_tail, IsShort}
use Rattle.plan_pieces.specs.FlagsLaws.{tail_alone, tail_last, tail_before}
use Rattle.plan_pieces.specs.Output.{Output}
use Rattle.planner.specs.Operation.{plan_of}
use Rattle.plan_theorems.specs.Made.{flags_at, length_at}
use Rattle.plan_theorems.proofs.Theorems.{plan_made, made_of_span}

module _ (r : Recording) (segment : SegmentConfig) (settings : PlanConfig) (values : List Float) (flags : List ℕ) (levels : List Float) (out : Output) (work : Work) (parent : List ℕ)
    (f : Fitting values levels) (k : ℕ) (planned : (plan_of r segment settings values flags levels out work parent).answer ≡ Ok k)
  where
    abbrev after : Output
    after = (plan_of r segment settings values flags levels out work parent).out

    abbrev minimum : Float
    minimum = minimum_in (grid_of r (length values)) settings

    -- the short flag of piece i, which is the tail or not
    short_by : (i : ℕ) (tail : Bool) → i < k → is_tail k i ≡ tail → has_short (flags_at after i) ≡ IsShort tail minimum (length_at after i)
    short_by i tail h e =
        let made = plan_made r segment settings values flags levels out work parent k planned in
        (made_of_span r segment settings values flags levels k out after made f (omega (arith, h))).flagged.short i h
        ∙ ap (λ (t : Bool). IsShort t minimum (length_at after i)) e

    -- "The last piece of a plan with two or more pieces is no longer flagged short"
    pub plan_tail : 2 ≤ k → has_short (flags_at after (k - 1)) ≡ false
    plan_tail h = short_by (k - 1) _ (omega (arith, h)) (tail_last k h)

    -- "A plan of one piece is flagged as before": where it is shorter than the minimum
    pub plan_alone : k ≡ 1 → has_short (flags_at after 0) ≡ is_shorter minimum (length_at after 0)
    plan_alone e = short_by 0 _ (omega (arith, e)) (tail_alone k 0 (omega (arith, e)))

    -- and so is every piece before the last
    pub plan_before : (i : ℕ) → suc i < k → has_short (flags_at after i) ≡ is_shorter minimum (length_at after i)
    plan_before i h = short_by i _ (omega (arith, h)) (tail_before k i h)
