-- The kind, or that there is none of its number.
use Rattle.std.proofs.lemmas.Result.{err_from_is_err_and}
use Rattle.job.specs.Settings.{gap_at}
use Rattle.job.proofs.settings.gap_at.Goals as goal

pub returns-in_err-kind-clause-read : goal.returns-in_err-kind-clause-read
unfolding gap_at
returns-in_err-kind-clause-read c =
    let p = err_from_is_err_and c.from_residual.result c.from_residual.ensures.1 in
    let kind = c.in_err-kind.ensures.read in
    rw (p.1, p.2) (rw (← c.has-present.ensures, kind.0), kind.1, kind.2)

pub returns-clause-read : goal.returns-clause-read
unfolding gap_at
returns-clause-read c =
    let kind = c.in_ok-kind.ensures.read in
    (rw (← c.has-present.ensures, kind.0, c.gap_of.ensures), kind.1)
