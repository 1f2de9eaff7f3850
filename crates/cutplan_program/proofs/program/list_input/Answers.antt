-- What was read lies in the list; a job's listing or the line of 19 is written.
use mathlib.Core.Path.{sym, ap, ◌∙◌}
use lib.Seq.{length-take-le}
use Rattle.cutplan.specs.Lines.{refusal_said}
use Rattle.cutplan.specs.CutplanLaws.{front_counts}
use Rattle.cutplan_program.specs.ProgramLaws.{read_inside, after_read, after_failed, nineteen_said}
use Rattle.cutplan_program.proofs.program.list_input.Goals as goal

pub slice_bounds-list_job-end : goal.slice_bounds-list_job-end
slice_bounds-list_job-end c =
    sym (length-take-le _ _ (read_inside c.args.got _ _ c.in-Ok.is c.requires.fits_in))

pub returns-in-Ok : goal.returns-in-Ok
returns-in-Ok c = let after = after_read c.args.got _ c.args.job.now c.in-Ok.is in
    rw (← after.0) (record { refused_value = c.list_job.ensures.refused_value ∙ ap refusal_said after.1; size_value = c.list_job.ensures.size_value; out_after = c.list_job.ensures.out_after; prefix_len = front_counts _ c.args.out.now _ _ c.list_job.ensures.size_value c.list_job.ensures.out_after })

pub returns-in-Err : goal.returns-in-Err
returns-in-Err c = let after = after_failed c.args.got _ c.args.job.now c.in-Err.is in
    rw (← after.0) (record { refused_value = c.write_number.ensures.refused_value ∙ nineteen_said ∙ ap refusal_said after.1; size_value = c.write_number.ensures.size_value; out_after = c.write_number.ensures.out_after; prefix_len = front_counts _ c.args.out.now _ _ c.write_number.ensures.size_value c.write_number.ensures.out_after })
