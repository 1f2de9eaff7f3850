-- An end for each test.
use Rattle.std.proofs.lemmas.Result.{err_from_is_err_and}
use mathlib.Core.Path.{◌∙◌, sym}
use Rattle.job.specs.JobLaws.{too_long, unknown_bit, unknown_kind, known_kinds}
use Rattle.job.proofs.read.read.Goals as goal

pub returns-then-job-gt-MOST_BYTES : goal.returns-then-job-gt-MOST_BYTES
returns-then-job-gt-MOST_BYTES c = c.refused.ensures ∙ too_long c.args.job.now c.if-job-gt-MOST_BYTES.true

pub returns-then-map-ge4096 : goal.returns-then-map-ge4096
returns-then-map-ge4096 c =
    c.refused-then-map-ge4096.ensures ∙ unknown_bit c.args.job.now c.if-job-gt-MOST_BYTES.false c.at-map.result c.at-map.ensures c.if-map-ge4096.true

pub returns-in_err-head : goal.returns-in_err-head
returns-in_err-head c =
    let p = err_from_is_err_and c.from_residual.result c.from_residual.ensures.1 in
    rw (p.1, p.2) (unknown_kind c.args.job.now c.if-job-gt-MOST_BYTES.false c.at-map.result c.at-map.ensures c.if-map-ge4096.false
    _ (sym c.in_err-head.ensures.value))

pub returns : goal.returns
returns c =
    c.fit.ensures ∙ known_kinds c.args.job.now c.if-job-gt-MOST_BYTES.false c.at-map.result c.at-map.ensures c.if-map-ge4096.false
    _ (sym c.in_ok-head.ensures.value)
