-- Each end has its law: no bytes, a job, bytes that are none.
use Rattle.std.specs.Prelude.{Some}
use mathlib.Core.Path.{sym, ap, ◌∙◌}
use Rattle.job.specs.JobLaws.{read_within}
use Rattle.cutplan.specs.CutplanLaws.{empty_printed, empty_said, job_printed, job_refused, fault_printed, fault_said}
use Rattle.cutplan.specs.Lines.{refusal_said}
use Rattle.cutplan.proofs.plan.list_job.Goals as goal

pub returns-then-job-eq0 : goal.returns-then-job-eq0
returns-then-job-eq0 c = let none = c.if-job-eq0.true in
    let written = c.write_empty.ensures in
    rw (← empty_printed c.args.job.now none)
    (record { size_value = written.size_value; refused_value = written.refused_value ∙ empty_said c.args.job.now none; out_after = written.out_after })

pub plan_read-requires : goal.plan_read-requires
plan_read-requires c = record { within = read_within c.args.job.now _ (sym c.read.ensures ∙ c.in-Ok.is); longest_listing_in_bounds = c.requires }

pub returns-in-Ok : goal.returns-in-Ok
returns-in-Ok c = let some = c.if-job-eq0.false in
    let read = sym c.read.ensures ∙ c.in-Ok.is in
    rw (← job_printed c.args.job.now some _ read) (record { size_value = c.plan_read.ensures.size_value; refused_value = c.plan_read.ensures.refused_value ∙ ap refusal_said (job_refused c.args.job.now some _ read); out_after = c.plan_read.ensures.out_after })

pub returns-in-Err : goal.returns-in-Err
returns-in-Err c = let some = c.if-job-eq0.false in
    let read = sym c.read.ensures ∙ c.in-Err.is in
    let written = c.write_number.ensures in
    rw (← fault_printed c.args.job.now some _ read, ← c.from.ensures)
    (record { size_value = written.size_value; refused_value = written.refused_value ∙ ap Some c.from.ensures ∙ fault_said c.args.job.now some _ read; out_after = written.out_after })
