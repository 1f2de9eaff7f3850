use Prim.Native.Nat.{◌-◌}
use Rattle.completion.specs.CutsLaws.{MarkedUpTo}
use Rattle.completion.proofs.far.mark_far.Given as goal

abbrev pub invariant-loop : goal.invariant-loop
invariant-loop l = MarkedUpTo l.x l.base l.pieces l.limit l.initial.work l.at (l.pieces - l.counter) l.work
