-- The lines for a job by its head, and the number of its refusal.
use Rattle.std.specs.Prelude.{ℕ, List}
use Rattle.job.specs.Job.{values_in, flags_in, levels_in}
use Rattle.job.specs.declared.answer.Head.{Head}
use Rattle.cutplan.specs.Lines.{lines_of_plan, refused_of_plan}

-- the lines for a job that was read
abbrev pub lines_of_head : List ℕ → Head → List ℕ
lines_of_head job h = lines_of_plan h.recording h.segment h.settings (values_in job h) (flags_in job h) (levels_in job h)

-- the number of its refusal, 0 where there is a plan
abbrev pub refused_of_head : List ℕ → Head → ℕ
refused_of_head job h = refused_of_plan h.recording h.segment h.settings (values_in job h) (flags_in job h) (levels_in job h)
