-- One group of fields after another; the first kind that there is not is the refusal.
use Rattle.std.proofs.lemmas.Result.{err_from_is_err_and}
use Rattle.job.specs.Job.{numbers_of}
use Rattle.job.proofs.read.numbers_of.Goals as goal

pub returns-in_err-settings-clause-value : goal.returns-in_err-settings-clause-value
unfolding numbers_of
returns-in_err-settings-clause-value c =
    let p = err_from_is_err_and c.from_residual.result c.from_residual.ensures.1 in
    rw (p.1, p.2, c.in_err-settings.ensures.read.0)

pub returns-in_err-segment-clause-value : goal.returns-in_err-segment-clause-value
unfolding numbers_of
returns-in_err-segment-clause-value c =
    let asked = c.in_ok-settings.ensures.read in
    let p = err_from_is_err_and c.from_residual-in_err-segment.result c.from_residual-in_err-segment.ensures.1 in
    rw (p.1, p.2, asked.0, ← asked.1.same_bytes, ← asked.1.same_map, c.in_err-segment.ensures.read.0)

pub returns-in_err-recorded-clause-value : goal.returns-in_err-recorded-clause-value
unfolding numbers_of
returns-in_err-recorded-clause-value c =
    let asked = c.in_ok-settings.ensures.read in
    let heard = c.in_ok-segment.ensures.read in
    let p = err_from_is_err_and c.from_residual-in_err-recorded.result c.from_residual-in_err-recorded.ensures.1 in
    rw (
      p.1,
      p.2,
      asked.0,
      ← asked.1.same_bytes,
      ← asked.1.same_map,
      heard.0,
      ← heard.1.same_bytes,
      c.in_err-recorded.ensures.read.0,
    )

pub returns-clause-value : goal.returns-clause-value
unfolding numbers_of
returns-clause-value c =
    let asked = c.in_ok-settings.ensures.read in
    let heard = c.in_ok-segment.ensures.read in
    rw (asked.0, ← asked.1.same_bytes, ← asked.1.same_map, heard.0, ← heard.1.same_bytes, c.in_ok-recorded.ensures.read.0)
