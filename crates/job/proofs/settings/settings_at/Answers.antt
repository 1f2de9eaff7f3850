-- One field after another; the first kind that there is not is the refusal.
use Rattle.std.proofs.lemmas.Result.{err_from_is_err_and}
use Rattle.job.specs.Settings.{settings_at}
use Rattle.job.specs.ReadsLaws.{same_then}
use Rattle.job.proofs.settings.settings_at.Goals as goal

pub returns-in_err-gap_at-clause-read : goal.returns-in_err-gap_at-clause-read
unfolding settings_at
returns-in_err-gap_at-clause-read c =
    let min = c.u64_or.ensures.read in
    let target = c.u64_or-2.ensures.read in
    let max = c.u64_or-3.ensures.read in
    let mode = c.mode_at.ensures.read in
    let gap = c.in_err-gap_at.ensures.read in
    let p = err_from_is_err_and c.from_residual.result c.from_residual.ensures.1 in
    rw (p.1, p.2) (
      rw (
        min.part_is,
        ← min.same.same_bytes,
        ← min.same.same_map,
        target.part_is,
        ← target.same.same_bytes,
        ← target.same.same_map,
        max.part_is,
        ← max.same.same_bytes,
        ← max.same.same_map,
        mode.part_is,
        ← mode.same.same_bytes,
        ← mode.same.same_map,
        gap.0,
      ),
      same_then min.same (same_then target.same (same_then max.same (same_then mode.same gap.1))),
      gap.2,
    )

pub returns-in_err-placement_at-clause-read : goal.returns-in_err-placement_at-clause-read
unfolding settings_at
returns-in_err-placement_at-clause-read c =
    let min = c.u64_or.ensures.read in
    let target = c.u64_or-2.ensures.read in
    let max = c.u64_or-3.ensures.read in
    let mode = c.mode_at.ensures.read in
    let gap = c.in_ok-gap_at.ensures.read in
    let p = err_from_is_err_and c.from_residual-in_err-placement_at.result c.from_residual-in_err-placement_at.ensures.1 in
    let placement = c.in_err-placement_at.ensures.read in
    rw (p.1, p.2) (
      rw (
        min.part_is,
        ← min.same.same_bytes,
        ← min.same.same_map,
        target.part_is,
        ← target.same.same_bytes,
        ← target.same.same_map,
        max.part_is,
        ← max.same.same_bytes,
        ← max.same.same_map,
        mode.part_is,
        ← mode.same.same_bytes,
        ← mode.same.same_map,
        gap.0,
        ← gap.1.same_bytes,
        ← gap.1.same_map,
        placement.0,
      ),
      same_then min.same (same_then target.same (same_then max.same (same_then mode.same (same_then gap.1 placement.1)))),
      placement.2,
    )

pub returns-clause-read : goal.returns-clause-read
unfolding settings_at
returns-clause-read c =
    let min = c.u64_or.ensures.read in
    let target = c.u64_or-2.ensures.read in
    let max = c.u64_or-3.ensures.read in
    let mode = c.mode_at.ensures.read in
    let gap = c.in_ok-gap_at.ensures.read in
    let placement = c.in_ok-placement_at.ensures.read in
    let weights = c.weights_at.ensures.read in (
      rw (
        min.part_is,
        ← min.same.same_bytes,
        ← min.same.same_map,
        target.part_is,
        ← target.same.same_bytes,
        ← target.same.same_map,
        max.part_is,
        ← max.same.same_bytes,
        ← max.same.same_map,
        mode.part_is,
        ← mode.same.same_bytes,
        ← mode.same.same_map,
        gap.0,
        ← gap.1.same_bytes,
        ← gap.1.same_map,
        placement.0,
        ← placement.1.same_bytes,
        ← placement.1.same_map,
        weights.part_is,
      ),
      same_then min.same (same_then target.same (same_then max.same (same_then mode.same (same_then gap.1 (same_then placement.1 weights.same))))),
    )
