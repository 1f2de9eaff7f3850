-- The kind, and its number if it has one.
use Rattle.std.proofs.lemmas.Result.{err_from_is_err_and}
use Rattle.job.specs.Segment.{threshold_at}
use Rattle.job.specs.ReadsLaws.{same_then}
use Rattle.job.proofs.segment.threshold_at.Goals as goal

pub returns-in_err-kind-clause-read : goal.returns-in_err-kind-clause-read
unfolding threshold_at
returns-in_err-kind-clause-read c =
    let p = err_from_is_err_and c.from_residual.result c.from_residual.ensures.1 in
    let kind = c.in_err-kind.ensures.read in
    rw (p.1, p.2) (rw (← c.has-present.ensures, kind.0), kind.1, kind.2)

pub returns-clause-read : goal.returns-clause-read
unfolding threshold_at
returns-clause-read c =
    let kind = c.in_ok-kind.ensures.read in
    let level = c.f32_if-level.ensures.read in
    (rw (← c.has-present.ensures, kind.0, ← kind.1.same_bytes, level.part_is, c.threshold_of.ensures), same_then kind.1 level.same)
