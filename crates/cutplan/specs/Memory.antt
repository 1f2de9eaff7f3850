-- The lists that `cutplan` lends to the operation Plan. Document 01: "its parent list has 16,384 entries, its other lists are large enough".
use Rattle.std.specs.Prelude.{ℕ, List, Float, replicate}
use Rattle.std.specs.Float.{binary64}
use Rattle.std.specs.Float.Ieee.{of_bits}
use Rattle.base_terms.specs.Work.{Work, work_of}
use Rattle.grid.specs.declared.validate.Recording.{Recording}
use Rattle.silence_list.specs.declared.config.SegmentConfig.{SegmentConfig}
use Rattle.plan_settings.specs.declared.config.PlanConfig.{PlanConfig}
use Rattle.plan_pieces.specs.Output.{Output, Handed, handed_of}
use Rattle.planner.specs.Operation.{End, plan_of}

-- 16 entries in each work list for each of 511 frames, and 16 more
abbrev pub lent_work : Work
lent_work = work_of (replicate 8192 0) (replicate 8192 0) (replicate 8192 (of_bits binary64 0))

-- document 01: "its parent list has 16,384 entries"
abbrev pub lent_parents : List ℕ
lent_parents = replicate 16384 0

module _ (r : Recording) (segment : SegmentConfig) (settings : PlanConfig) (values : List Float) (flags : List ℕ) (levels : List Float) (out : Output) where
  -- what the operation leaves
  abbrev pub end_within : End
  end_within = plan_of r segment settings values flags levels out lent_work lent_parents

  -- its answer, and the output with it
  unfoldable pub handed_within : Handed
  handed_within = handed_of end_within.answer end_within.out
