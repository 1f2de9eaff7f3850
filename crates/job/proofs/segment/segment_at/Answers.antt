-- One field after another.
use Rattle.std.proofs.lemmas.Result.{err_from_is_err_and}
use Rattle.job.specs.Segment.{segment_at}
use Rattle.job.specs.ReadsLaws.{same_then}
use Rattle.job.proofs.segment.segment_at.Goals as goal

pub returns-in_err-threshold_at-clause-read : goal.returns-in_err-threshold_at-clause-read
unfolding segment_at
returns-in_err-threshold_at-clause-read c =
    let p = err_from_is_err_and c.from_residual.result c.from_residual.ensures.1 in
    let threshold = c.in_err-threshold_at.ensures.read in
    rw (p.1, p.2) (rw threshold.0, threshold.1, threshold.2)

pub returns-clause-read : goal.returns-clause-read
unfolding segment_at
returns-clause-read c =
    let threshold = c.in_ok-threshold_at.ensures.read in
    let silence = c.u64_or.ensures.read in
    let sound = c.u64_or-2.ensures.read in
    let before = c.u64_or-3.ensures.read in
    let after = c.u64_or-4.ensures.read in (
      rw (
        threshold.0,
        ← threshold.1.same_bytes,
        ← threshold.1.same_map,
        silence.part_is,
        ← silence.same.same_bytes,
        ← silence.same.same_map,
        sound.part_is,
        ← sound.same.same_bytes,
        ← sound.same.same_map,
        before.part_is,
        ← before.same.same_bytes,
        ← before.same.same_map,
        after.part_is,
      ),
      same_then threshold.1 (same_then silence.same (same_then sound.same (same_then before.same after.same))),
    )
