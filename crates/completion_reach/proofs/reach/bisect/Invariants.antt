use Prim.Native.Nat.{◌-◌, ◌≤◌}
use Rattle.candidate_span.specs.Span.{span_in}
use Rattle.completion_reach.specs.ReachLaws.{Bracket}
use Rattle.completion_reach.proofs.reach.bisect.Given as goal

abbrev pub invariant-loop-low : goal.invariant-loop-low
invariant-loop-low l = Bracket l.x.grid (span_in l.x.gap l.x.padding l.x.span l.silences) l.count l.maximum l.low l.high × (l.high ≤ l.enough)

abbrev pub decreases-loop-low : goal.decreases-loop-low
decreases-loop-low l = l.high - l.low
