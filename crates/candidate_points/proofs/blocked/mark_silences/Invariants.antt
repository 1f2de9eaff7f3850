use Rattle.std.specs.Prelude.{◌≡◌}
use Rattle.candidate_points.specs.Blocked.{flags_by}
use Rattle.candidate_points.proofs.blocked.mark_silences.Given as goal

abbrev pub invariant-loop-pair : goal.invariant-loop-pair
invariant-loop-pair l = l.flags ≡ flags_by l.gap l.g l.s l.silences l.pair-index
